use Rattle.std.proofs.Common.{◌≡◌, ◌≤◌, ◌++◌, map, take, drop, length}
use Rattle.std.specs.List.{AllByRecursion}
use Rattle.cad_map.specs.Boundaries.{canonical_form}
use Rattle.cad_map.proofs.canonical.make_each_canonical.Given as goal

abbrev pub invariant-loop-boundary : goal.invariant-loop-boundary
invariant-loop-boundary l =
    (l.boundary-items ≡ map canonical_form (take l.boundary-index l.fn.boundaries) ++ drop l.boundary-index l.fn.boundaries)
    × AllByRecursion (λ b. 2 ≤ length b.ring) (take l.boundary-index l.boundary-items)
