-- The two ways to say that a table with one half kept of each ring is that of a map.
use Rattle.std.proofs.Common.{◌≡◌, [], true}
use Rattle.cad_map.specs.Boundaries.{face_place}
use Rattle.cad_map.specs.Map.{Map}
use Rattle.cad_map.specs.Rings.{HasWholeRings}
use Rattle.cad_map.proofs.CallerLemmas.{All-from_each}
use Rattle.cell_grid.specs.Grid.{empty_grid}
use Rattle.half_table.specs.declared.half.Half.{Half}
use Rattle.half_table.specs.Rows.{HalfRows, has}
use Rattle.half_paths.specs.Path.{AreIn}
use Rattle.key_lists.specs.Held.{Held, items_at}
use Rattle.cad_rows.specs.declared.names.Face.{Face}
use Rattle.map_parts.specs.declared.stars.Spoke.{Spoke}
use Rattle.map_parts.specs.Parts.{Parts}
use Rattle.map_parts.specs.Building.{parts_of}
use Rattle.map_parts.specs.Passing.{FitTable}
use Rattle.map_parts.specs.Islands.{FitsTable}
use Rattle.map_parts.specs.Handing.{KeepsEach}
use Rattle.map_parts.specs.Splitting.{AreStarsOf}
use Rattle.map_parts.proofs.KeptEach as kept

module _ (m : Map) (whole : HasWholeRings m) (rows : HalfRows) (held : Held Half) where
  abbrev d : Held Spoke → Parts
  d stars = parts_of m (record { rows = rows; work = 0 }) held stars empty_grid

  pub table-of : FitTable m rows held → FitsTable m rows
  table-of fits = record { local = fits.local; ends = fits.ends; faces = fits.faces }

  pub each-of : (stars : Held Spoke) → AreStarsOf m.strings stars → FitTable m rows held → KeepsEach m rows held
  each-of stars are fits = kept.to-each (d stars) m.boundaries whole (record {
    local = fits.local;
    ends = fits.ends;
    faces = fits.faces;
    kept = fits.kept;
    no_face = fits.no_face;
    stars = are;
  })

  pub of-each : FitsTable m rows → KeepsEach m rows held → FitTable m rows held
  of-each fits keeps = record {
    local = fits.local;
    ends = fits.ends;
    faces = fits.faces;
    kept = kept.from-each (d []) m.boundaries whole keeps;
    no_face = keeps.none;
  }

  -- the halves that are kept for a face are there
  pub kept-in : FitsTable m rows → KeepsEach m rows held → (f : Face) → AreIn rows (items_at held (face_place f))
  kept-in fits keeps f =
      All-from_each (λ h. has rows h ≡ true) (items_at held (face_place f))
      (λ h among. fits.local.there h (keeps.on f h among).2.shown)
