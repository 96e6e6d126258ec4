use Rattle.std.proofs.Common.{◌∙◌, sym}
use Rattle.cad_map.proofs.Lists.Entries.{take-more}
use Rattle.cad_map.proofs.copying.copy_retired.Goals as goal

pub loop-place-preserved : goal.loop-place-preserved
loop-place-preserved g c =
    let m = g.M.MapView.map c.args.view.now in
    let more = take-more m.retired c.loop-place.place _ (sym c.retired_at.ensures ∙ c.unwrap-number.ensures) in
    c.in_ok-put_retired.ensures.ok ∙ rw c.loop-place.invariant (λ i. record c.args.made.now { retired = more i })
