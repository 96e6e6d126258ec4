use Rattle.std.proofs.Common.{drop}
use Rattle.std.specs.Prelude.{◌↔◌}
use Rattle.std.specs.List.{AllByRecursion}
use Rattle.cad_map.specs.Valid.{LiesOnlyAsEnd}
use Rattle.cad_valid.proofs.crossings.all_points_lie_at_ends.Given as goal

-- the points that are left decide
abbrev pub invariant-loop-place : goal.invariant-loop-place
invariant-loop-place g l =
    let m = g.M.MapView.map l.map in
    AllByRecursion (λ p. AllByRecursion (LiesOnlyAsEnd m p) m.strings) m.points ↔ AllByRecursion (λ p. AllByRecursion (LiesOnlyAsEnd m p) m.strings) (drop l.place m.points)
