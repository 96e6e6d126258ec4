-- A map on half-edges between two edits.
use Rattle.cad_near.specs.KeptAreas.{KeptAreas, HoldsAreas}
use Rattle.map_parts.specs.Parts.{Parts, map_of, kept_at}
use Rattle.cad_surgery.specs.Proper.{IsProper}
use Rattle.edit_records.specs.Gridded.{IsGridOf}

-- table, halves of rings and grid are those of the map, and have nothing beside it
pub record IsAtRest (d : Parts) : Type 0 where
  pub proper : IsProper (map_of d) d.table.rows (kept_at d)
  pub grid : IsGridOf d.grid (map_of d)

-- and the areas that are kept are the map's
pub record IsWhole (d : Parts) (kept : KeptAreas) : Type 0 where
  pub rest : IsAtRest d
  pub areas : HoldsAreas kept (map_of d)
