use Rattle.std.proofs.Common.{drop}
use Rattle.std.specs.Prelude.{◌↔◌}
use Rattle.std.specs.List.{AllByRecursion}
use Rattle.cad_map.specs.Valid.{MeetAtEnds}
use Rattle.cad_valid.proofs.crossings.meets_later_at_ends.Given as goal

-- the strings that are left decide
abbrev pub invariant-loop-place : goal.invariant-loop-place
invariant-loop-place g l =
    let m = g.M.MapView.map l.map in
    AllByRecursion (MeetAtEnds m l.string) (drop l.from m.strings) ↔ AllByRecursion (MeetAtEnds m l.string) (drop l.place m.strings)
