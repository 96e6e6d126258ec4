use Rattle.std.proofs.Common.{◌≡◌, ◌<◌, ℕ, length, slice_index_or}
use Rattle.cad_valid.specs.Hubs.{alone}
use Rattle.cad_valid.proofs.hubs.each_alone.Given as goal

-- those before this one stand there, each alone
abbrev pub invariant-loop-place : goal.invariant-loop-place
invariant-loop-place l = record {
  count : length l.groups.items ≡ l.place;
  each : (i : ℕ) → i < l.place → slice_index_or l.groups.items i 0 ≡ alone i;
}
