-- The parts of a map on half-edges: rows, a table, one half of each ring, the star of each point,
-- and a grid of strings and points.
use Rattle.std.specs.Prelude.{◌≡◌, ◌≢◌, ℕ, true, false, List, [], map, IsPermutation}
use Rattle.std.specs.List.{Contains, AllByRecursion, flat_map}
use Rattle.cad_rows.specs.declared.rows.PointRow.{PointRow}
use Rattle.cad_rows.specs.declared.rows.StringRow.{StringRow}
use Rattle.cad_rows.specs.declared.rows.ParcelRow.{ParcelRow}
use Rattle.cad_rows.specs.declared.rows.SourceRow.{SourceRow}
use Rattle.cad_rows.specs.declared.names.Face.{Face}
use Rattle.cad_map.specs.declared.boundary.Boundary.{Boundary}
use Rattle.cad_map.specs.Boundaries.{canonical_order, face_place}
use Rattle.cad_map.specs.Map.{Map, faces, has_face}
use Rattle.cad_map.specs.Valid.{EachPair, HasTwoEnds}
use Rattle.half_table.specs.declared.half.Half.{Half}
use Rattle.half_table.specs.Half.{forward_of, backward_of, twin}
use Rattle.half_table.specs.Rows.{HalfRows, Table, IsLinked, has, next, origin_of, face, cycle}
use Rattle.cad_laws.specs.Local.{IsShown}
use Rattle.key_lists.specs.Held.{Held, items_at}
use Rattle.cell_grid.specs.Grid.{Grid}
use Rattle.map_parts.specs.declared.stars.Spoke.{Spoke}
use Rattle.map_parts.specs.KeptRings.{kept_ring}
use Rattle.map_parts.specs.Stars.{spokes_at}

-- what a contract sees of a map on half-edges
pub record Parts : Type 0 where
  pub sources : List SourceRow
  pub points : List PointRow
  pub parcels : List ParcelRow
  pub strings : List StringRow
  pub retired : List ℕ
  pub table : Table
  -- by the places of faces, one half of each ring
  pub kept : Held Half
  -- by the numbers of points, the halves that begin there
  pub stars : Held Spoke
  -- strings and points at their positions
  pub grid : Grid

-- the rows, and no ring
abbrev pub rows_of : Parts → Map
rows_of d = record {
  sources = d.sources;
  points = d.points;
  parcels = d.parcels;
  strings = d.strings;
  retired = d.retired;
  boundaries = [];
}

-- ---- The map that they stand for

-- the halves that are kept for a face
abbrev pub kept_at : Parts → Face → List Half
kept_at d f = items_at d.kept (face_place f)

-- with the face
abbrev pub in_face : Parts → Face → List (Face × Half)
in_face d f = map (λ h. (f, h)) (kept_at d f)

-- all halves that are kept, with their faces
abbrev pub kept_halves : Parts → List (Face × Half)
kept_halves d = flat_map (in_face d) (faces (rows_of d))

-- the rings as they are kept: the points along the cycles of the halves that are kept
abbrev pub rings_kept : Parts → List Boundary
rings_kept d = map (kept_ring d.table.rows) (kept_halves d)

-- the map: the rows, and the rings in canonical order
abbrev pub map_of : Parts → Map
map_of d = record (rows_of d) { boundaries = canonical_order (rings_kept d) }

-- ---- That they go together

-- the two halves of a string are in the table, and begin at its ends
pub record HasHalves (rows : HalfRows) (s : StringRow) : Type 0 where
  pub there : has rows (forward_of s.number) ≡ true
  pub back : has rows (backward_of s.number) ≡ true
  pub from : origin_of rows (forward_of s.number) ≡ s.from
  pub to : origin_of rows (backward_of s.number) ≡ s.to

-- the half is on the cycle of one that is kept
pub record IsOnKeptCycle (d : Parts) (h : Half) : Type 0 where
  pub kept : Face × Half
  pub there : Contains (kept_halves d) kept
  pub on : Contains (cycle d.table.rows kept.1) h

-- rows, table, halves of rings and stars are those of one map
pub record FitTogether (d : Parts) : Type 0 where
  pub linked : IsLinked d.table.rows
  pub numbers : EachPair (λ a b. a ≢ b) (map (λ s. s.number) d.strings)
  pub parcel_numbers : EachPair (λ a b. a ≢ b) (map (λ p. p.number) d.parcels)
  pub two_ends : HasTwoEnds (rows_of d)
  pub ends : AllByRecursion (HasHalves d.table.rows) d.strings
  -- the halves of the map's strings go on to one another
  pub inside : (h : Half) → IsShown (rows_of d) h → IsShown (rows_of d) (next d.table.rows h)
  pub meets : (h : Half) → IsShown (rows_of d) h
      → origin_of d.table.rows (next d.table.rows h) ≡ origin_of d.table.rows (twin h)
  -- a half that is kept is of one of the map's strings, and its cycle has the face
  pub shown : (k : Face × Half) → Contains (kept_halves d) k → IsShown (rows_of d) k.1
  pub faces : (k : Face × Half) → Contains (kept_halves d) k → (h : Half)
      → Contains (cycle d.table.rows k.1) h → face d.table.rows h ≡ k.0
  pub homes : (h : Half) → IsShown (rows_of d) h → IsOnKeptCycle d h
  -- for what is no face none is kept
  pub no_face : (f : Face) → has_face (rows_of d) f ≡ false → kept_at d f ≡ []
  pub stars : (p : ℕ) → IsPermutation (spokes_at p d.strings) (items_at d.stars p)
