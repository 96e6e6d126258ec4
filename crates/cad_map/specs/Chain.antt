-- Chains of points, and the corners where they begin and end.
use Rattle.std.specs.Prelude.{ℕ, ◌-◌, Bool, true, ◌&&◌, not, ◌==◌, nat_le, List, [], ◌∷◌, length, reverse, filter, slice_index, slice_range, Option, find}
use Rattle.std.specs.List.{list_any, list_all}
use Rattle.geo_exact.specs.Sector.{in_sector}
use Rattle.cad_rows.specs.declared.rows.StringRow.{StringRow}
use Rattle.cad_rows.specs.declared.names.Face.{Face}
use Rattle.cad_rings.specs.Cycle.{Corner, Side}
use Rattle.cad_map.specs.Map.{Map, position_of, face_corners}

abbrev pub start_of : List ℕ → ℕ
start_of chain = slice_index chain 0

-- the point that follows the first one
abbrev pub next_of : List ℕ → ℕ
next_of chain = slice_index chain 1

abbrev pub end_of : List ℕ → ℕ
end_of chain = start_of (reverse chain)

-- the last point but one
abbrev pub last_but_one : List ℕ → ℕ
last_but_one chain = next_of (reverse chain)

-- the points between the first and the last
abbrev pub inner_of : List ℕ → List ℕ
inner_of chain = slice_range chain 1 (length chain - 1)

-- no number stands twice
abbrev pub are_distinct : List ℕ → Bool
are_distinct [] = true
are_distinct (x ∷ xs) = not (list_any (λ y. x == y) xs) && are_distinct xs

-- a row for each two neighbours, from the former to the latter
abbrev pub strings_along : List ℕ → List ℕ → List ℕ → List StringRow
strings_along sources (s ∷ strings) (a ∷ b ∷ points) = record { number = s; from = a; to = b; sources = sources } ∷ strings_along sources strings (b ∷ points)
strings_along sources strings points = []

-- the sector of the corner has the point
abbrev pub has_in_sector : Map → Corner → ℕ → Bool
has_in_sector m c w = in_sector (position_of m c.at) (position_of m c.after) (position_of m c.before) (position_of m w)

-- of corners, the one whose following point has the least number
abbrev pub first_by_after : List Corner → Option Corner
first_by_after corners = find (λ c. list_all (λ d. nat_le c.after d.after) corners) corners

-- the face's corner at a point whose sector has w; of several, the one whose following point has the least number
abbrev pub chosen_corner : Map → Face → ℕ → ℕ → Option Corner
chosen_corner m face at w = first_by_after (filter (λ c. (c.at == at) && has_in_sector m c w) (face_corners m face))

-- the side that leaves the corner
abbrev pub leaving : Corner → Side
leaving c = (c.at, c.after)
