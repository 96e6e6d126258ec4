use Rattle.std.proofs.Common.{sym, subst}
use Rattle.cell_grid.specs.Grid.{Grid}
use Rattle.cad_near.specs.Near.{HoldsMap}
use Rattle.map_parts.specs.Parts.{Parts, map_of}
use Rattle.edit_records.proofs.GridRows.{holds-map}
use Rattle.cad_surgery.proofs.half_map.HalfMap.grid.Goals as goal

pub returns-clause-held : goal.returns-clause-held
returns-clause-held g c =
    subst (λ (d : Parts). HoldsMap c.grid.result.now (map_of d)) c.self.view_is
    (subst (λ (h : Grid). HoldsMap h (map_of c.self.inside.draft)) (sym c.grid.ensures)
    (holds-map _ _ c.self.invariant.rest.grid))
