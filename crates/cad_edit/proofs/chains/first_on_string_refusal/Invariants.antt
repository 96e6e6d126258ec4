use Rattle.std.proofs.Common.{◌≡◌, drop}
use Rattle.cad_map.specs.Refusals.{first_not_free}
use Rattle.cad_edit.proofs.chains.first_on_string_refusal.Given as goal

-- the first point on a string is ahead
abbrev pub invariant-loop-point : goal.invariant-loop-point
invariant-loop-point g l = first_not_free (g.M.MapView.map l.fn.map) l.fn.points ≡ first_not_free (g.M.MapView.map l.fn.map) (drop l.point-index l.fn.points)
