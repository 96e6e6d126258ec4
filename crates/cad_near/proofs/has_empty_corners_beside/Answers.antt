use Rattle.std.proofs.Common.{◌∙◌, true, refl, sym, ap, Some}
use Rattle.cad_near.specs.Near.{touched_of}
use Rattle.cad_near.proofs.NearCorners.{near-corners}
use Rattle.cad_near.proofs.StayedCorners.{stayed-empty, stayed-corners}
use Rattle.cad_near.proofs.Candidates.{second-decides}
use Rattle.cad_near.proofs.has_empty_corners_beside.Goals as goal

pub are_empty_round-requires-clause-seen : goal.are_empty_round-requires-clause-seen
are_empty_round-requires-clause-seen g c =
    let from = c.requires.touched in
    λ q s.
    stayed-empty from.before (g.M.MapView.map c.args.map.now) (touched_of c.args.touched.now) (record { point = c.moved.inside.point; from = c.moved.inside.from }) from.valid c.requires.whole from.touched (c.in-Some.is ∙ ap Some (sym c.moved.view_is)) c.requires.points
    q s.before s.after s.beyond s.inside

pub returns-in-Some : goal.returns-in-Some
returns-in-Some g c =
    let from = c.requires.touched in
    let halves = stayed-corners from.before (g.M.MapView.map c.args.map.now) (touched_of c.args.touched.now) (record { point = c.moved.inside.point; from = c.moved.inside.from }) from.valid c.requires.whole from.touched (c.in-Some.is ∙ ap Some (sym c.moved.view_is)) in
    second-decides halves true ((λ _. c.requires.points), (λ _. refl)) c.are_empty_round.result c.are_empty_round.ensures refl

pub returns-in-None : goal.returns-in-None
returns-in-None g c =
    let from = c.requires.touched in
    let halves = near-corners from.before (g.M.MapView.map c.args.map.now) (touched_of c.args.touched.now) from.valid c.requires.whole from.touched in
    second-decides halves true ((λ _. c.requires.points), (λ _. refl)) _ (rw c.as_slice.ensures.value at c.are_empty_at_ends.ensures) refl
