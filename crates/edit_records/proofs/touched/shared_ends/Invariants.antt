use Rattle.std.proofs.Common.{take}
use Rattle.std.specs.Prelude.{flat_map}
use Rattle.std.specs.List.{Contains}
use Rattle.cad_rings.specs.Cycle.{Side, opposite, sides_of}
use Rattle.cad_map.specs.Map.{rings_at}
use Rattle.cad_map.specs.Views.{HasSide}
use Rattle.edit_records.proofs.touched.shared_ends.Given as goal

-- the ends of the shared sides of the rings so far
abbrev pub invariant-loop-place : goal.invariant-loop-place
invariant-loop-place g l =
    (s : Side) → Contains (flat_map sides_of (take l.place (rings_at l.face (g.M.MapView.rings l.map)))) s → HasSide (g.M.MapView.map l.map) l.other (opposite s)
    → Contains l.points.items s.0 × Contains l.points.items s.1
