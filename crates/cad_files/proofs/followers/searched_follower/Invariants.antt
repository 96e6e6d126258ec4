use Rattle.std.proofs.Common.{take}
use Rattle.cad_files.proofs.SoleFollower.{IsSearched}
use Rattle.cad_files.proofs.followers.searched_follower.Given as goal

abbrev pub invariant-loop-i : goal.invariant-loop-i
invariant-loop-i l = IsSearched l.side l.ends (take l.i l.ends) l.found
