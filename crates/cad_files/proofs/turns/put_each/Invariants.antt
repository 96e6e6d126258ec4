use Rattle.cad_files.specs.Turns.{AreTurnsOf}
use Rattle.cad_files.proofs.turns.put_each.Given as goal

abbrev pub invariant-loop-i : goal.invariant-loop-i
invariant-loop-i l = AreTurnsOf l.plain l.turns.entries
