use Rattle.std.proofs.Common.{drop}
use Rattle.std.specs.Prelude.{◌↔◌}
use Rattle.cad_map.specs.Valid.{EachPair, MeetAtEnds}
use Rattle.cad_valid.proofs.crossings.all_strings_meet_at_ends.Given as goal

-- the strings that are left decide
abbrev pub invariant-loop-place : goal.invariant-loop-place
invariant-loop-place g l =
    let m = g.M.MapView.map l.map in
    EachPair (MeetAtEnds m) m.strings ↔ EachPair (MeetAtEnds m) (drop l.place m.strings)
