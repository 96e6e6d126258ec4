-- The star of a point: the half-edges that begin there.
use Rattle.std.specs.Prelude.{◌≡◌, ◌++◌, ℕ, Bool, ◌==◌, ◌&&◌, nat_lt, List, [], ◌∷◌, length, find, Option, None, option_map, if◌then◌else◌}
use Rattle.std.specs.List.{flat_map}
use Rattle.cad_rows.specs.declared.rows.StringRow.{StringRow}
use Rattle.cad_rings.specs.Cycle.{Side, opposite}
use Rattle.half_table.specs.declared.half.Half.{Half}
use Rattle.half_table.specs.Half.{twin, forward_of, backward_of, is_half}
use Rattle.key_lists.specs.Held.{Held, items_at}
use Rattle.map_parts.specs.declared.stars.Spoke.{Spoke}

-- the half that begins at a point, and its far end
abbrev pub spoke : Half → ℕ → Spoke
spoke half far = record { half = half; far = far }

-- what a string adds to the star of a point
abbrev pub spokes_of : ℕ → StringRow → List Spoke
spokes_of p s =
    if s.from == p then spoke (forward_of s.number) s.to ∷ []
    else (if s.to == p then spoke (backward_of s.number) s.from ∷ [] else [])

-- the star of a point
abbrev pub spokes_at : ℕ → List StringRow → List Spoke
spokes_at p strings = flat_map (spokes_of p) strings

-- each star has more what the string adds to it
abbrev pub AddsSpokes : StringRow → Held Spoke → Held Spoke → Type 0
AddsSpokes s old new = (p : ℕ) → items_at new p ≡ items_at old p ++ spokes_of p s

-- the first of these halves that ends at the point
abbrev pub half_to : ℕ → List Spoke → Option Half
half_to far spokes = option_map (λ (x : Spoke). x.half) (find (λ (x : Spoke). x.far == far) spokes)

-- the half along a side, by the star of the point where it begins
abbrev pub half_along : Held Spoke → Side → Option Half
half_along stars s = half_to s.1 (items_at stars s.0)

-- the same, by the star of the point where it ends: the twin of the half that leads back
abbrev pub half_by_end : Held Spoke → Side → Option Half
half_by_end stars s = option_map twin (half_along stars (opposite s))

-- more than a few halves begin at the one point, and fewer at the other
abbrev pub are_fewer_there : Held Spoke → ℕ → ℕ → Bool
are_fewer_there stars here there =
    nat_lt 8 (length (items_at stars here))
    && nat_lt (length (items_at stars there)) (length (items_at stars here))

-- the half along a side, by the star of its end, or of its beginning where fewer begin there
abbrev pub half_by_ends : Held Spoke → Side → Option Half
half_by_ends stars s =
    if are_fewer_there stars s.1 s.0 then half_along stars s else half_by_end stars s

-- where a half ends, as a star tells that has few
abbrev pub far_among_few : Half → List Spoke → Option ℕ
far_among_few half spokes =
    if nat_lt 8 (length spokes) then None
    else option_map (λ (x : Spoke). x.far) (find (λ (x : Spoke). is_half x.half half) spokes)

-- whether two halves of a star are the same
abbrev pub is_spoke : Spoke → Spoke → Bool
is_spoke s t = is_half s.half t.half && (s.far == t.far)
