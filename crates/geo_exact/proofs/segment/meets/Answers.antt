use Rattle.std.proofs.Common.{sym, ◌∙◌}
use Rattle.geo_exact.proofs.SignTestLemmas.{passes_signs-is}
use Rattle.geo_exact.proofs.segment.meets.Goals as goal

pub returns : goal.returns
returns c =
    let e = passes_signs-is c.args.a c.args.b c.args.c c.args.d in
    ((λ h. e.0 (sym c.passes_sign_test.ensures ∙ h)), (λ l. c.passes_sign_test.ensures ∙ e.1 l))
