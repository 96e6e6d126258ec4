use Rattle.std.proofs.Common.{drop}
use Rattle.std.specs.List.{AllByRecursion}
use Rattle.sweep.specs.Spans.{IsRising, PassIfMet}
use Rattle.sweep.proofs.scan.passes_later.Given as goal

-- the spans that are left rise, and decide
abbrev pub invariant-loop-place : goal.invariant-loop-place
invariant-loop-place g l =
    IsRising (drop l.place l.spans)
    × (AllByRecursion (PassIfMet (g.T.PairTest.passes l.test) l.first) (drop l.place l.spans) → AllByRecursion (PassIfMet (g.T.PairTest.passes l.test) l.first) (drop l.from l.spans))
