-- What is built of a map whose rings are whole stands for it.
use Rattle.std.proofs.Common.{◌≡◌, [], sym, subst}
use Rattle.std.specs.List.{Contains}
use Rattle.cad_map.specs.declared.boundary.Boundary.{Boundary}
use Rattle.cad_map.specs.Map.{Map}
use Rattle.cad_map.specs.Rings.{HasWholeRings}
use Rattle.half_table.specs.declared.half.Half.{Half}
use Rattle.half_table.specs.Rows.{Table}
use Rattle.map_parts.specs.declared.stars.Spoke.{Spoke}
use Rattle.key_lists.specs.Held.{Held}
use Rattle.cell_grid.specs.Grid.{Grid}
use Rattle.cad_laws.specs.Local.{IsLocal}
use Rattle.map_parts.specs.Parts.{FitTogether, map_of}
use Rattle.map_parts.specs.Fits.{FitRings}
use Rattle.map_parts.specs.Building.{parts_of, HoldsStrings}
use Rattle.map_parts.specs.Labels.{IsLabelled, HoldsRings}
use Rattle.map_parts.proofs.Labels.{faced}
use Rattle.map_parts.proofs.KeptHalves.{keeps-rings, none-kept}
use Rattle.map_parts.proofs.FromHalves.{fit-together, map-is}

module _ (m : Map) (whole : HasWholeRings m) (table : Table) (kept : Held Half) (stars : Held Spoke) (grid : Grid) (st : HoldsStrings m table.rows stars) (local : IsLocal m table.rows)
    (labelled : (b : Boundary) → Contains m.boundaries b → IsLabelled m table.rows b) (holds : HoldsRings m table.rows kept m.boundaries) where
  fits : FitRings (parts_of m table kept stars grid) m.boundaries
  fits = record {
    local = local;
    ends = st.ends;
    faces = faced m whole table.rows stars st labelled;
    kept = keeps-rings (parts_of m table kept stars grid) m.boundaries whole holds;
    no_face = none-kept (parts_of m table kept stars grid) m.boundaries whole holds;
    stars = st.stars;
  }

  pub built-fit : (r : Map) → r ≡ record m { boundaries = [] } → FitTogether (parts_of r table kept stars grid)
  built-fit r is = subst (λ (q : Map). FitTogether (parts_of q table kept stars grid)) (sym is) (fit-together (parts_of m table kept stars grid) m.boundaries whole fits)

  pub built-map : (r : Map) → r ≡ record m { boundaries = [] } → map_of (parts_of r table kept stars grid) ≡ m
  built-map r is = subst (λ (q : Map). map_of (parts_of q table kept stars grid) ≡ m) (sym is) (map-is (parts_of m table kept stars grid) m.boundaries whole fits)
