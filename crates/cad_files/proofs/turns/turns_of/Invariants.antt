use Rattle.cad_files.specs.Turns.{AreTurnsOf}
use Rattle.cad_files.proofs.turns.turns_of.Given as goal

abbrev pub invariant-loop-place : goal.invariant-loop-place
invariant-loop-place l = AreTurnsOf l.plain l.turns.entries
