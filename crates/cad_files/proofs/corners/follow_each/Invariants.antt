use Rattle.std.proofs.Common.{◌≡◌, ◌++◌, map, drop}
use Rattle.std.specs.List.{AllByRecursion}
use Rattle.cad_files.specs.Follower.{labelled_sides}
use Rattle.cad_files.specs.Corners.{labelled, HasFollower, AreLinkedIn}
use Rattle.cad_files.proofs.corners.follow_each.Given as goal

abbrev pub invariant-loop-i : goal.invariant-loop-i
invariant-loop-i l = record {
  each : AllByRecursion (HasFollower l.plain) l.passed.items;
  linked : AreLinkedIn l.strings l.passed.items;
  sides : map labelled l.passed.items ++ labelled_sides (drop l.i l.strings) ≡ labelled_sides l.strings;
}
