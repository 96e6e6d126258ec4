-- The strings of a map as their points see them.
use Rattle.std.specs.Prelude.{ℕ, Bool, false, ◌==◌, ◌||◌, ◌%◌, List, [], ◌∷◌, length, filter, slice_index_or, if◌then◌else◌}
use Rattle.std.specs.List.{flat_map, enumerate_from}
use Rattle.cad_rows.specs.declared.rows.StringRow.{StringRow}
use Rattle.cad_map.specs.declared.stars.Spoke.{Spoke}
use Rattle.cad_map.specs.Map.{Map, far_end, position_of}

-- the string at a place, as a point at one of its ends sees it
abbrev pub spoke_of : Map → ℕ → StringRow → ℕ → Spoke
spoke_of m place s p = record {
  at = p;
  far = far_end s p;
  position = position_of m (far_end s p);
  place = place;
}

-- the string at a place, as its first point sees it and as its second, where they are two points
abbrev pub spokes_at : Map → ℕ → StringRow → List Spoke
spokes_at m place s =
    if s.from == s.to then spoke_of m place s s.from ∷ []
    else (spoke_of m place s s.from ∷ spoke_of m place s s.to ∷ [])

-- each string in order, as its points see it
abbrev pub spokes_of : Map → List Spoke
spokes_of m = flat_map (λ e. spokes_at m e.0 e.1) (enumerate_from 0 m.strings)

-- those of the point
abbrev pub star : ℕ → List Spoke → List Spoke
star p spokes = filter (λ s. s.at == p) spokes

-- The point's number leaves the place of a mark by the count of marks. Where there are no marks every point is marked.
abbrev pub is_marked : List Bool → ℕ → Bool
is_marked marks p = (length marks == 0) || slice_index_or marks (p % length marks) false

-- those of the point, if it is marked
abbrev pub marked_star : List Bool → ℕ → List Spoke → List Spoke
marked_star marks p spokes = if is_marked marks p then star p spokes else []
