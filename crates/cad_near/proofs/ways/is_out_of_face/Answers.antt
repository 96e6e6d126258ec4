use Rattle.std.proofs.Common.{sym, ◌∙◌, true≢false}
use Rattle.cad_rings.specs.Cycle.{Side}
use Rattle.cad_map.specs.Map.{all_sides}
use Rattle.cad_map.proofs.CallerLemmas.{Contains-has_side}
use Rattle.cad_near.proofs.ClearPoints.{told-face}
use Rattle.cad_near.proofs.MovedRings.{of-face}
use Rattle.cad_near.proofs.ways.is_out_of_face.Goals as goal

pub returns-in-Some : goal.returns-in-Some
returns-in-Some g c = λ has.
    c.is_face.ensures ∙ told-face (g.M.MapView.map c.args.map.now) c.requires c.args.point c.args.face.now c.in-Some.left c.args.ray.now.far (rw c.in-Some.is at c.face_of.ensures.some) has

pub returns-in-None : goal.returns-in-None
returns-in-None g c = λ has.
    let m = g.M.MapView.map c.args.map.now in
    let side : Side = (c.args.point, c.args.ray.now.far) in
    let none = rw c.in-None.is at c.face_of.ensures.none in
    absurd (true≢false (sym (Contains-has_side side (all_sides m) (of-face m c.args.face.now side has)) ∙ none))
