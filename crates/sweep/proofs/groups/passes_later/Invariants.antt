use Rattle.std.proofs.Common.{◌≤◌, ◌<◌, ℕ, slice_index_or}
use Rattle.sweep.specs.declared.part.Part.{Part}
use Rattle.sweep.specs.Parts.{PassBetween}
use Rattle.sweep.proofs.groups.passes_later.Given as goal

abbrev pub invariant-loop-place : goal.invariant-loop-place
invariant-loop-place g l =
    (k : ℕ) (d : Part) → l.from ≤ k → k < l.place → PassBetween (g.T.PairTest.passes l.test) l.first (slice_index_or l.parts k d)
