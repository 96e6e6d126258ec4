use Rattle.key_lists.specs.Held.{IsSame}
use Rattle.map_parts.proofs.building.make_star_room.Given as goal

-- the stars hold what they held
abbrev pub invariant-loop-place : goal.invariant-loop-place
invariant-loop-place l = IsSame l.fn.stars l.stars
