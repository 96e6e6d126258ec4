use Rattle.cad_map.proofs.Ends.InTurn.{AreMetBelow}
use Rattle.cad_map.proofs.turn.are_met_in_turn.Given as goal

-- those before this one are met in turn
abbrev pub invariant-loop-i : goal.invariant-loop-i
invariant-loop-i l = AreMetBelow l.centre l.spokes l.i
