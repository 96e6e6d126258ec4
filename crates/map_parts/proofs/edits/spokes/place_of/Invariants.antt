use Rattle.std.proofs.Common.{◌≡◌, ℕ, ◌<◌, false, get_or}
use Rattle.map_parts.specs.declared.stars.Spoke.{Spoke}
use Rattle.map_parts.specs.Stars.{spoke, is_spoke}
use Rattle.map_parts.proofs.edits.spokes.place_of.Given as goal

-- none of those before is the half
abbrev pub invariant-loop-place : goal.invariant-loop-place
invariant-loop-place l = (k : ℕ) (d : Spoke) → k < l.place → is_spoke (get_or l.spokes k d) (spoke l.half l.far) ≡ false
