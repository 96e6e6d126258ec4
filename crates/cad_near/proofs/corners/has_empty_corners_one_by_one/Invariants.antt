use Rattle.cad_map.specs.Map.{far_end}
use Rattle.cad_valid.specs.Corners.{is_empty_after}
use Rattle.cad_valid.proofs.CallerLemmas.{HavePassed}
use Rattle.cad_near.proofs.corners.has_empty_corners_one_by_one.Given as goal

-- the corners after the strings so far are empty
abbrev pub invariant-loop-place : goal.invariant-loop-place
invariant-loop-place g l =
    let m = g.M.MapView.map l.map in
    HavePassed m l.point (λ s. is_empty_after m (far_end s l.point, l.point)) (g.M.MapView.view_strings l.map l.point) l.place
