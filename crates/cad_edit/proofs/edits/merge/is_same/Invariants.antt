use Rattle.std.proofs.Common.{◌≡◌, ◌<◌, ℕ}
use Rattle.std.specs.Prelude.{slice_index}
use Rattle.cad_edit.proofs.edits.merge.is_same.Given as goal

-- the points so far are the same
abbrev pub invariant-loop-place : goal.invariant-loop-place
invariant-loop-place l = (p : ℕ) → p < l.place → slice_index l.a p ≡ slice_index l.b p
