use Rattle.map_parts.specs.Building.{HoldsStringsUpTo}
use Rattle.map_parts.proofs.building.add_strings.Given as goal

abbrev pub invariant-loop-place : goal.invariant-loop-place
invariant-loop-place g l = HoldsStringsUpTo l.map l.place l.table.rows l.stars
