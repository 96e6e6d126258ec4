-- The parts of a map on half-edges that is changed as a whole: as they come, and as they rest.
use Rattle.std.proofs.Common.{◌≡◌, ◌≤◌, ℕ, sym, ap, subst, ◌∙◌}
use Rattle.std.specs.Prelude.{Result, Ok, Err, OnErr}
use Rattle.cell_grid.specs.Grid.{Grid}
use Rattle.cad_map.specs.Map.{Map, has_string}
use Rattle.cad_map.specs.Rings.{HasWholeRings}
use Rattle.half_table.specs.declared.half.Half.{Half}
use Rattle.half_table.specs.Count.{greatest}
use Rattle.half_table.specs.Rows.{Table, has}
use Rattle.key_lists.specs.Held.{Held}
use Rattle.cad_map.specs.declared.map_rows.MapRows.{MapRows}
use Rattle.map_parts.specs.declared.stars.Spoke.{Spoke}
use Rattle.map_parts.specs.Parts.{Parts, FitTogether, map_of, kept_at}
use Rattle.cad_surgery.specs.Proper.{IsProper}
use Rattle.map_parts.specs.Splitting.{FitMap}
use Rattle.cad_surgery.specs.Work.{TakesWork, TicksUpTo}
use Rattle.cad_surgery.proofs.FitParts.{parts, parts-fit}
use Rattle.cad_surgery.proofs.ProperParts.{proper}
use Rattle.cad_surgery.proofs.WorkTaken.{ticks-work}

-- what holds is so where an error was told
pub in-err : {A E P : Type 0} (r : Result A E) → P → OnErr r P
in-err (Ok a) p = tt
in-err (Err e) p = p

module _ (rows : MapRows) (table : Table) (held : Held Half) (stars : Held Spoke) (grid : Grid) (v : Parts)
    (view : parts rows table held stars grid ≡ v) where
  module _ (fit : FitTogether (parts rows table held stars grid)) (whole : HasWholeRings (map_of v)) where
    -- they are those of their map
    pub draft-fits : FitMap (map_of v) rows table.rows held stars
    draft-fits =
        subst (λ (q : Parts). FitMap (map_of q) rows table.rows held stars) view
        (parts-fit rows table held stars grid fit (subst (λ (q : Parts). HasWholeRings (map_of q)) (sym view) whole))

  -- and the table has no other strings
  pub draft-all : IsProper (map_of v) v.table.rows (kept_at v) → (g : Half) → has table.rows g ≡ has_string (map_of v) g.string
  draft-all it g = ap (λ (q : Parts). has q.table.rows g) view ∙ it.halves g

  pub draft-work : (t : Table) (a b : ℕ) → table.work ≤ greatest → a ≤ b → TicksUpTo a table t → TakesWork v.table t b
  draft-work t a b within low ticks =
      subst (λ (q : Parts). TakesWork q.table t b) view (ticks-work table t a b within low ticks)

-- parts that stand for a map with whole rings, and have no other halves, are at rest
pub settled : (d : Parts) (m : Map) → FitTogether d → map_of d ≡ m → HasWholeRings m
    → ((g : Half) → has d.table.rows g ≡ has_string m g.string) → IsProper (map_of d) d.table.rows (kept_at d)
settled d m fit is whole alone =
    proper d fit (subst HasWholeRings (sym is) whole) (λ g. alone g ∙ ap (λ (q : Map). has_string q g.string) (sym is))
