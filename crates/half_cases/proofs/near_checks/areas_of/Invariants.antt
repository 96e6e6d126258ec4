use Rattle.cad_near.specs.KeptAreas.{HoldsAreas}
use Rattle.half_cases.proofs.near_checks.areas_of.Given as goal

-- what is kept so far are areas of the map
abbrev pub invariant-loop-face : goal.invariant-loop-face
invariant-loop-face l = HoldsAreas l.areas l.map
