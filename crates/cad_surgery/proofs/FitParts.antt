-- Rows, a table with one half kept of each ring, and stars of a map, as parts that fit together.
use Rattle.std.proofs.Common.{◌≡◌, ℕ, List, refl, sym, ap, subst, ◌∙◌}
use Rattle.cad_rows.specs.declared.rows.ParcelRow.{ParcelRow}
use Rattle.cad_map.specs.Map.{Map, has_string}
use Rattle.cad_map.specs.Rings.{HasWholeRings}
use Rattle.cell_grid.specs.Grid.{Grid}
use Rattle.half_table.specs.declared.half.Half.{Half}
use Rattle.half_table.specs.Rows.{Table, has}
use Rattle.key_lists.specs.Held.{Held}
use Rattle.cad_map.specs.declared.map_rows.MapRows.{MapRows}
use Rattle.map_parts.specs.declared.stars.Spoke.{Spoke}
use Rattle.map_parts.specs.declared.edits.placed_strings.PlacedString.{PlacedString}
use Rattle.map_parts.specs.Merging.{HaveGone}
use Rattle.cad_map.specs.MapRows.{map_in}
use Rattle.map_parts.specs.Parts.{Parts, FitTogether, map_of, kept_at}
use Rattle.cad_surgery.specs.Proper.{IsProper}
use Rattle.cad_surgery.specs.declared.draft.Draft.TheInside.{Inside}
use Rattle.map_parts.specs.Fits.{FitRings}
use Rattle.map_parts.specs.Building.{parts_of}
use Rattle.map_parts.specs.Splitting.{FitMap}
use Rattle.map_parts.proofs.FromHalves.{fit-together, map-is}
use Rattle.cad_surgery.proofs.ProperParts.{proper}
use Rattle.map_parts.proofs.ToHalves.{fits}
use Rattle.map_parts.proofs.WholeStrings.{strings-once}

module _ (rows : MapRows) (table : Table) (held : Held Half) (stars : Held Spoke) (grid : Grid) where
  abbrev pub parts : Parts
  parts = parts_of (map_in rows) table held stars grid

  module _ (m : Map) (whole : HasWholeRings m) (fit : FitMap m rows table.rows held stars) where
    rings : FitRings (parts_of m table held stars grid) m.boundaries
    rings = record {
      local = fit.fits.local;
      ends = fit.fits.ends;
      faces = fit.fits.faces;
      kept = fit.fits.kept;
      no_face = fit.fits.no_face;
      stars = fit.are_stars;
    }

    -- they fit together, and stand for the map
    pub fit-parts : FitTogether parts
    fit-parts =
        subst (λ (q : Map). FitTogether (parts_of q table held stars grid)) (sym fit.rows_are)
        (fit-together (parts_of m table held stars grid) m.boundaries whole rings)

    pub fit-map : map_of parts ≡ m
    fit-map =
        subst (λ (q : Map). map_of (parts_of q table held stars grid) ≡ m) (sym fit.rows_are)
        (map-is (parts_of m table held stars grid) m.boundaries whole rings)

    -- and are proper for it, where the table has no other strings
    pub fit-proper : ((h : Half) → has table.rows h ≡ has_string m h.string)
        → IsProper (map_of parts) table.rows (kept_at parts)
    fit-proper alone =
        proper parts fit-parts (subst HasWholeRings (sym fit-map) whole)
        (λ h. alone h ∙ ap (λ (q : Map). has_string q h.string) (sym fit-map))

  -- and parts that stand for a map with whole rings are its
  pub parts-fit : FitTogether parts → HasWholeRings (map_of parts) → FitMap (map_of parts) rows table.rows held stars
  parts-fit together whole =
      let k = fits parts together (strings-once (map_of parts) whole) in
      record {
        rows_are = refl;
        fits = record { local = k.local; ends = k.ends; faces = k.faces; kept = k.kept; no_face = k.no_face };
        are_stars = k.stars;
      }

-- the parts that a draft holds
abbrev pub parts-in : {T : Type 0} → Inside T → Parts
parts-in d = parts d.rows d.table d.kept d.stars d.grid

-- Rows, a table with one half kept of each ring, and stars are those of the map, whose rings are whole.
pub record GoWith (m : Map) (rows : MapRows) (table : Table) (held : Held Half) (stars : Held Spoke) : Type 0 where
  pub whole : HasWholeRings m
  pub fits : FitMap m rows table.rows held stars

module _ (grid : Grid) {m : Map} {rows : MapRows} {table : Table} {held : Held Half} {stars : Held Spoke} (it : GoWith m rows table held stars) where
  -- they fit together, and stand for the map
  pub together : FitTogether (parts rows table held stars grid)
  together = fit-parts rows table held stars grid m it.whole it.fits

  pub stand-for : map_of (parts rows table held stars grid) ≡ m
  stand-for = fit-map rows table held stars grid m it.whole it.fits

  pub still-whole : HasWholeRings (map_of (parts rows table held stars grid))
  still-whole = subst HasWholeRings (sym stand-for) it.whole

  -- and are at rest, where the table has no other strings
  pub at-rest : ((h : Half) → has table.rows h ≡ has_string m h.string)
      → IsProper (map_of (parts rows table held stars grid)) table.rows (kept_at (parts rows table held stars grid))
  at-rest = fit-proper rows table held stars grid m it.whole it.fits

-- rows that went from those of a draft went from its map
pub gone-from : {T : Type 0} (inside : Inside T) {v : Parts} → parts-in inside ≡ v → {ended : ℕ} {strings : List ℕ} {row : ParcelRow} {place : ℕ} {gone : List PlacedString}
    → HaveGone (map_in inside.rows) ended strings row place gone → HaveGone (map_of v) ended strings row place gone
gone-from inside view {ended} {strings} {row} {place} {gone} it =
    subst (λ (q : Parts). HaveGone (map_of q) ended strings row place gone) view
    (record { row = it.row; found = it.found; numbers = it.numbers; stood = it.stood })
