use Rattle.std.proofs.Common.{◌<◌, ℕ, length, slice_index_or}
use Rattle.std.specs.List.{Contains}
use Rattle.sweep.specs.declared.extent.Extent.{Extent}
use Rattle.sweep.specs.Parts.{HavePartsBelow}
use Rattle.sweep.proofs.groups.parts_of.Given as goal

-- the boxes before this one stand there, and no others
abbrev pub invariant-loop-place : goal.invariant-loop-place
invariant-loop-place l = record {
  each : (i : ℕ) (d : Extent) → i < l.place → Contains l.parts.items (record { extent = slice_index_or l.extents i d; group = slice_index_or l.groups i 0; place = i });
  below : HavePartsBelow l.parts.items (length l.extents);
}
