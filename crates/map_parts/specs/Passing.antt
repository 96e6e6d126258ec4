-- A point between two others, on both rings of a string: a path of two strings through the point,
-- and the one string past it.
use Rattle.std.specs.Prelude.{◌≡◌, ℕ, false, not, ◌==◌, List, [], ◌∷◌, map, if◌then◌else◌, IsPermutation}
use Rattle.std.specs.List.{AllByRecursion, flat_map}
use Rattle.cad_rows.specs.declared.names.Face.{Face}
use Rattle.cad_rows.specs.declared.rows.StringRow.{StringRow}
use Rattle.cad_rings.specs.Cycle.{Side, opposite}
use Rattle.cad_map.specs.Boundaries.{face_place}
use Rattle.cad_map.specs.Map.{Map, faces, has_face, side_of}
use Rattle.cad_map.specs.Rings.{HasWholeRings}
use Rattle.half_table.specs.declared.half.Half.{Half}
use Rattle.half_table.specs.Half.{is_half, half_of, forward_of}
use Rattle.half_table.specs.Rows.{HalfRows, next}
use Rattle.half_paths.specs.Path.{AreDifferent}
use Rattle.half_paths.specs.Loose.{AreLoose}
use Rattle.cad_laws.specs.Joining.{AreNotJoined, IsJoinedAt}
use Rattle.cad_laws.specs.Local.{IsLocal}
use Rattle.key_lists.specs.Held.{Held, items_at}
use Rattle.map_parts.specs.KeptRings.{KeepsRings}
use Rattle.map_parts.specs.Parts.{HasHalves}
use Rattle.map_parts.specs.Fits.{HaveFaces}
use Rattle.map_parts.specs.declared.edits.passing.Passing.{Passing}

-- the half of the string leads along the side
pub record IsHalfAlong (row : StringRow) (h : Half) (s : Side) : Type 0 where
  pub string : h.string ≡ row.number
  pub side : (if h.forward then side_of row else opposite (side_of row)) ≡ s

-- Two maps of which one has the point p between a and b, with a string to it and one from it; the
-- other hasn't, and has a string from a to b.
pub record HasBetween (through past : Map) (p a b : ℕ) (passing : Passing) : Type 0 where
  pub joined : IsJoinedAt through past p a b
  pub look : AreNotJoined through a b
  pub rings : HasWholeRings through
  pub rings_past : HasWholeRings past
  pub parcels : past.parcels ≡ through.parcels
  pub first_row : StringRow
  pub second_row : StringRow
  pub whole_row : StringRow
  pub others : List StringRow
  pub first_along : IsHalfAlong first_row passing.first (a, p)
  pub second_along : IsHalfAlong second_row passing.second (p, b)
  pub whole_along : IsHalfAlong whole_row passing.whole (a, b)
  pub different : AreDifferent (passing.whole ∷ passing.first ∷ passing.second ∷ [])
  pub strings : IsPermutation through.strings (first_row ∷ second_row ∷ others)
  pub strings_past : IsPermutation past.strings (whole_row ∷ others)

-- the halves that are kept of the rings of each of the map's faces
abbrev pub kept_in : Map → Held Half → List (Face × Half)
kept_in m held = flat_map (λ f. map (λ h. (f, h)) (items_at held (face_place f))) (faces m)

-- a table, with one half kept of each ring, is that of the map
pub record FitTable (m : Map) (rows : HalfRows) (held : Held Half) : Type 0 where
  pub local : IsLocal m rows
  pub ends : AllByRecursion (HasHalves rows) m.strings
  pub faces : HaveFaces m rows
  pub kept : KeepsRings m rows (kept_in m held)
  pub no_face : (f : Face) → has_face m f ≡ false → items_at held (face_place f) ≡ []

-- the table is that of the map without the point, and the strings to it are there, loose
pub record CanGoThrough (passing : Passing) (rows : HalfRows) (held : Held Half) : Type 0 where
  pub through : Map
  pub past : Map
  pub p : ℕ
  pub a : ℕ
  pub b : ℕ
  pub between : HasBetween through past p a b passing
  pub fits : FitTable past rows held
  pub first_there : HasHalves rows between.first_row
  pub second_there : HasHalves rows between.second_row
  pub loose : AreLoose (next rows) (passing.first ∷ passing.second ∷ [])

-- the table is that of the map with the point, and the string past it is there, loose
pub record CanGoPast (passing : Passing) (rows : HalfRows) (held : Held Half) : Type 0 where
  pub through : Map
  pub past : Map
  pub p : ℕ
  pub a : ℕ
  pub b : ℕ
  pub between : HasBetween through past p a b passing
  pub fits : FitTable through rows held
  pub whole_there : HasHalves rows between.whole_row
  pub loose : AreLoose (next rows) (passing.whole ∷ [])

-- the one half in the place of the other
abbrev pub in_place_of : Half → Half → Half → Half
in_place_of from to h = if is_half h from then to else h

-- under the key alone
abbrev pub in_place_at : ℕ → Half → Half → ℕ → Half → Half
in_place_at key from to n h = if key == n then in_place_of from to h else h

-- the halves, from the first point of the string to its second, of a path of two strings and of
-- the one in whose place it is
abbrev pub path_of : (string first second : ℕ) → Passing
path_of string first second =
    record { first = forward_of first; second = forward_of second; whole = forward_of string }

-- the halves from the far end of the one string to the point, and on to the far end of the other,
-- and the half of the string in their place
abbrev pub path_at : (p : ℕ) → (first second : StringRow) → (whole : ℕ) → Passing
path_at p first second whole = record {
  first = half_of first.number (not (first.from == p));
  second = half_of second.number (second.from == p);
  whole = forward_of whole;
}
