use Rattle.cad_near.specs.KeptAreas.{HoldsAreas}
use Rattle.map_parts.specs.Parts.{map_of}
use Rattle.cad_surgery.proofs.draft_areas.keep_areas.Given as goal

-- what is kept so far are areas of the map, if what was kept before was
abbrev pub invariant-loop-face : goal.invariant-loop-face
invariant-loop-face g l = HoldsAreas l.fn.areas (map_of l.fn.draft) → HoldsAreas l.areas (map_of l.fn.draft)
