-- A map: its rows in order of entry, and the rings of its faces.
use Rattle.std.specs.Prelude.{ℕ, Bool, true, ◌||◌, ◌==◌, List, [], ◌∷◌, length, map, filter, find, Option, is_some, if◌then◌else◌, ℤ, pos, int_lt, unwrap_or, option_map, None}
use Rattle.std.specs.Option.{option_or}
use Rattle.std.specs.List.{list_any, flat_map}
use Rattle.geo_exact.specs.Position.{Position}
use Rattle.geo_exact.specs.Measure.{Measure, doubled_area, sum_over}
use Rattle.geo_exact.specs.Inside.{is_inside}
use Rattle.cad_rows.specs.declared.rows.PointRow.{PointRow}
use Rattle.cad_rows.specs.declared.rows.StringRow.{StringRow}
use Rattle.cad_rows.specs.declared.rows.ParcelRow.{ParcelRow}
use Rattle.cad_rows.specs.declared.rows.SourceRow.{SourceRow}
use Rattle.cad_rows.specs.declared.names.Face.{Face}
use Rattle.cad_rows.specs.declared.names.Face.TheVariants.{Outside, Parcel}
use Rattle.cad_rings.specs.Cycle.{Ring, Side, has_side, opposite, sides_of, Corner, corners_of, after_side, placed, ring_sum}
use Rattle.cad_map.specs.declared.boundary.Boundary.{Boundary}
use Rattle.cad_map.specs.Boundaries.{is_face, sides_in, corners_in}
use Rattle.numbered_rows.specs.Rows.{row_with}

pub record Map : Type 0 where
  pub sources : List SourceRow
  pub points : List PointRow
  pub parcels : List ParcelRow
  pub strings : List StringRow
  -- the numbers of parcels that mergers ended
  pub retired : List ℕ
  pub boundaries : List Boundary

-- the map without rows
abbrev pub empty_map : Map
empty_map = record { sources = []; points = []; parcels = []; strings = []; retired = []; boundaries = [] }

-- ---- Rows by their numbers

-- the row of a source
abbrev pub source_of : Map → ℕ → Option SourceRow
source_of m s = row_with (λ r. r.number) s m.sources

-- the row of a point
abbrev pub point_of : Map → ℕ → Option PointRow
point_of m p = row_with (λ r. r.number) p m.points

-- the row of a parcel
abbrev pub parcel_of : Map → ℕ → Option ParcelRow
parcel_of m p = row_with (λ r. r.number) p m.parcels

-- the row of a string
abbrev pub string_of : Map → ℕ → Option StringRow
string_of m s = row_with (λ r. r.number) s m.strings

abbrev pub has_source : Map → ℕ → Bool
has_source m s = is_some (source_of m s)

abbrev pub has_point : Map → ℕ → Bool
has_point m p = is_some (point_of m p)

abbrev pub has_parcel : Map → ℕ → Bool
has_parcel m p = is_some (parcel_of m p)

abbrev pub has_string : Map → ℕ → Bool
has_string m s = is_some (string_of m s)

-- the outside is a face of every map
abbrev pub has_face : Map → Face → Bool
has_face m Outside = true
has_face m (Parcel n) = has_parcel m n

-- a merger that stands ended the parcel
abbrev pub is_retired : Map → ℕ → Bool
is_retired m p = list_any (λ n. n == p) m.retired

abbrev pub origin : Position
origin = record { x = pos 0; y = pos 0 }

-- the position of a point, and of one that isn't there the origin
abbrev pub position_of : Map → ℕ → Position
position_of m p = unwrap_or (option_map (λ r. r.position) (point_of m p)) origin

-- ---- Strings and their ends

-- a string as the side that leads from its first point to its second
abbrev pub side_of : StringRow → Side
side_of s = (s.from, s.to)

abbrev pub is_end : StringRow → ℕ → Bool
is_end s p = (s.from == p) || (s.to == p)

abbrev pub far_end : StringRow → ℕ → ℕ
far_end s p = if s.from == p then s.to else s.from

abbrev pub strings_at : Map → ℕ → List StringRow
strings_at m p = filter (λ s. is_end s p) m.strings

-- how many strings have the point
abbrev pub degree : Map → ℕ → ℕ
degree m p = length (strings_at m p)

-- no string has the point
abbrev pub is_free : Map → ℕ → Bool
is_free m p = degree m p == 0

-- both sides of each string
abbrev pub string_sides : Map → List Side
string_sides m = flat_map (λ s. side_of s ∷ opposite (side_of s) ∷ []) m.strings

-- ---- Faces

-- the outside, and each parcel
abbrev pub faces : Map → List Face
faces m = Outside ∷ map (λ p. Parcel p.number) m.parcels

-- those of these rings that have the face to their left
abbrev pub rings_at : Face → List Boundary → List Ring
rings_at f bs = map (λ b. b.ring) (filter (λ b. is_face f b.face) bs)

abbrev pub rings_of : Map → Face → List Ring
rings_of m f = rings_at f m.boundaries

abbrev pub face_sides : Map → Face → List Side
face_sides m f = flat_map sides_of (rings_of m f)

abbrev pub face_corners : Map → Face → List Corner
face_corners m f = flat_map corners_of (rings_of m f)

-- the sides of all rings
abbrev pub all_sides : Map → List Side
all_sides m = sides_in m.boundaries

-- the corners of all rings
abbrev pub all_corners : Map → List Corner
all_corners m = corners_in m.boundaries

-- the face to the left of a side
abbrev pub face_at : Map → Side → Option Face
face_at m s = option_map (λ b. b.face) (find (λ b. has_side s (sides_of b.ring)) m.boundaries)

abbrev pub left_face : Map → StringRow → Option Face
left_face m s = face_at m (side_of s)

abbrev pub right_face : Map → StringRow → Option Face
right_face m s = face_at m (opposite (side_of s))

-- the point that comes after a side in these rings: in the first of them that has it
abbrev pub point_after : Side → List Boundary → Option ℕ
point_after s [] = None
point_after s (b ∷ bs) = option_or (after_side s b.ring) (point_after s bs)

-- ---- Sums over rings and faces

abbrev pub sum_of_ring : Measure → Map → Ring → ℤ
sum_of_ring f m ring = ring_sum f (position_of m) ring

-- the measures of all sides of a face, added up
abbrev pub sum_of_face : Measure → Map → Face → ℤ
sum_of_face f m face = sum_over f (placed (position_of m) (face_sides m face))

abbrev pub is_positive : Map → Ring → Bool
is_positive m ring = int_lt (pos 0) (sum_of_ring doubled_area m ring)

abbrev pub is_negative : Map → Ring → Bool
is_negative m ring = int_lt (sum_of_ring doubled_area m ring) (pos 0)

-- a point is inside a ring
abbrev pub is_in_ring : Map → Ring → ℕ → Bool
is_in_ring m ring p = is_inside (placed (position_of m) (sides_of ring)) (position_of m p)
