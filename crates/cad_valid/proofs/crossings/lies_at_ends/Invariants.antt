use Rattle.std.proofs.Common.{drop}
use Rattle.std.specs.Prelude.{◌↔◌}
use Rattle.std.specs.List.{AllByRecursion}
use Rattle.cad_map.specs.Valid.{LiesOnlyAsEnd}
use Rattle.cad_valid.proofs.crossings.lies_at_ends.Given as goal

-- the strings that are left decide
abbrev pub invariant-loop-place : goal.invariant-loop-place
invariant-loop-place g l =
    let m = g.M.MapView.map l.map in
    AllByRecursion (LiesOnlyAsEnd m l.point) m.strings ↔ AllByRecursion (LiesOnlyAsEnd m l.point) (drop l.place m.strings)
