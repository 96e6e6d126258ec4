use Rattle.sweep.specs.Parts.{AreAlike}
use Rattle.sweep.proofs.PartFacts.{AreDone}
use Rattle.sweep.proofs.groups.passes_each.Given as goal

abbrev pub invariant-loop-place : goal.invariant-loop-place
invariant-loop-place g l = record {
  done : AreDone (g.T.PairTest.passes l.test) l.parts l.place;
  alike : AreAlike l.parts l.place l.end;
}
