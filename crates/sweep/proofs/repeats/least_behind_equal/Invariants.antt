use Rattle.std.specs.Prelude.{IfSome}
use Rattle.sweep.specs.Repeats.{FollowsEqual, PrecedesWithin}
use Rattle.sweep.proofs.repeats.least_behind_equal.Given as goal

-- it is the least of those before this one
abbrev pub invariant-loop-at : goal.invariant-loop-at
invariant-loop-at l = record {
  some : IfSome l.least (FollowsEqual l.keyed);
  least : PrecedesWithin l.keyed l.at l.least;
}
