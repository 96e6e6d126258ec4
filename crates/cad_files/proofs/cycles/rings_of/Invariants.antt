use Rattle.std.proofs.Common.{length, map}
use Rattle.cad_files.specs.Cycles.{followed_side}
use Rattle.cad_files.proofs.CycleFacts.{AreMade}
use Rattle.cad_files.proofs.cycles.rings_of.Given as goal

abbrev pub invariant-loop-first : goal.invariant-loop-first
invariant-loop-first l = AreMade (map followed_side l.fn.sides.items) l.rings.items l.rest.left

abbrev pub decreases-loop-first : goal.decreases-loop-first
decreases-loop-first l = length l.rest.left
