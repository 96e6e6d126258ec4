use Rattle.std.proofs.Common.{◌≡◌, take, map}
use Rattle.cad_rings.specs.Surgery.{without}
use Rattle.cad_map.specs.Boundaries.{bounding}
use Rattle.cad_edit.proofs.edits.join.rings_without.Given as goal

abbrev pub invariant-loop-boundary : goal.invariant-loop-boundary
invariant-loop-boundary l = l.made.items ≡ map (λ b. bounding b.face (without l.point b.ring)) (take l.boundary-index l.fn.map.boundaries)
