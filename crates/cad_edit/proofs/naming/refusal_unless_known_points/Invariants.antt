use Rattle.std.proofs.Common.{◌≡◌, not, find, drop}
use Rattle.cad_map.specs.Refusals.{is_there, points_named}
use Rattle.cad_edit.proofs.naming.refusal_unless_known_points.Given as goal

-- the first point that isn't there is ahead
abbrev pub invariant-loop-point : goal.invariant-loop-point
invariant-loop-point g l =
    find (λ n. not (is_there (g.M.MapView.map l.fn.map) n)) (points_named l.fn.points) ≡ find (λ n. not (is_there (g.M.MapView.map l.fn.map) n)) (points_named (drop l.point-index l.fn.points))
