use Rattle.cad_views.proofs.LandFacts.{IsFollowed}
use Rattle.cad_views.proofs.land.push_turns.Given as goal

-- the ring was followed up to the place
abbrev pub invariant-loop-place : goal.invariant-loop-place
invariant-loop-place l = IsFollowed l.map l.ring l.place l.before l.at l.fn.turns.items l.turns.items
