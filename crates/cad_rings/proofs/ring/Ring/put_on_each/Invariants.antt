use Rattle.std.proofs.Common.{◌≡◌, ◌++◌, [], ◌∷◌}
use Rattle.std.specs.Prelude.{flat_map, if◌then◌else◌}
use Rattle.cad_rings.specs.Cycle.{is_side}
use Rattle.cad_rings.specs.SidesLeft.{sides_left}
use Rattle.cad_rings.specs.Surgery.{put_on}
use Rattle.cad_rings.proofs.ring.Ring.put_on_each.Given as goal

-- the points so far, and those of the sides that are left, with the point put on each
abbrev pub invariant-loop-from : goal.invariant-loop-from
invariant-loop-from l = l.points.items ++ flat_map (λ s. if is_side l.side s then s.0 ∷ l.point ∷ [] else s.0 ∷ []) (sides_left l.from-iterator) ≡ put_on l.side l.point l.self
