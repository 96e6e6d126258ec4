use Rattle.std.proofs.Common.{◌≡◌, ◌≤◌, ◌<◌, ℕ, slice_index_or}
use Rattle.sweep.specs.declared.part.Part.{Part}
use Rattle.sweep.proofs.groups.end_of_group.Given as goal

-- those before this one are of the group
abbrev pub invariant-loop-end : goal.invariant-loop-end
invariant-loop-end l = (k : ℕ) (d : Part) → l.place ≤ k → k < l.end → (slice_index_or l.parts k d).group ≡ l.group
