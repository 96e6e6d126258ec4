use Rattle.std.proofs.Common.{drop}
use Rattle.sweep.specs.Spans.{EachTwo, IsRising, PassIfMet}
use Rattle.sweep.proofs.scan.passes_each.Given as goal

-- the spans that are left rise, and decide
abbrev pub invariant-loop-place : goal.invariant-loop-place
invariant-loop-place g l =
    IsRising (drop l.place l.spans)
    × (EachTwo (PassIfMet (g.T.PairTest.passes l.test)) (drop l.place l.spans) → EachTwo (PassIfMet (g.T.PairTest.passes l.test)) l.spans)
