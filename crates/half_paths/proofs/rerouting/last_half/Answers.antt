use Rattle.std.proofs.Common.{arith, ◌≡◌, ◌+◌, [], ◌∷◌, drop, sym, ap, ◌∙◌}
use Rattle.std.proofs.lemmas.List.{drop_more, drop_all}
use Rattle.half_table.specs.declared.half.Half.{Half}
use Rattle.half_paths.specs.Path.{last_of}
use Rattle.half_paths.proofs.rerouting.last_half.Goals as goal

pub loop-h-preserved : goal.loop-h-preserved
loop-h-preserved c =
    let rest = c.args.rest.now in
    let i = c.loop-h.h-index in
    let h : Half = c.h-item.result in
    let item : drop i rest ≡ h ∷ drop (i + 1) rest = drop_more rest i h c.loop-h-test.true ∙ ap (λ x. x ∷ drop (i + 1) rest) (sym c.h-item.is) in
    ap (last_of c.loop-h.last) (sym item) ∙ c.loop-h.invariant

pub returns : goal.returns
returns c =
    let whole : drop c.loop-h.h-index c.args.rest.now ≡ [] = drop_all c.loop-h.h-index c.args.rest.now (omega (arith, c.loop-h-test.false)) in
    ap (last_of c.loop-h.last) (sym whole) ∙ c.loop-h.invariant
