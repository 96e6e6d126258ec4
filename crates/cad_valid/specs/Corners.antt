-- Corners and the strings between their sides.
use Rattle.std.specs.Prelude.{ℕ, Bool, true, not, ◌&&◌, ◌||◌, option_map, unwrap_or, find, Option}
use Rattle.geo_exact.specs.Position.{Position}
use Rattle.geo_exact.specs.Sector.{in_sector}
use Rattle.cad_rows.specs.declared.rows.StringRow.{StringRow}
use Rattle.cad_rings.specs.Cycle.{Side, is_side, opposite, Corner}
use Rattle.cad_map.specs.Map.{Map, side_of, position_of, is_end, far_end, all_corners}
use Rattle.cad_map.specs.Valid.{is_empty_corner}

-- the string isn't at the point, or doesn't lie in the sector there that has these sides
abbrev pub is_clear_of_sector : Map → ℕ → Position → Position → Position → StringRow → Bool
is_clear_of_sector m p at after before s = not (is_end s p) || not (in_sector at after before (position_of m (far_end s p)))

-- the string isn't at the corner's point, or doesn't lie in its sector
abbrev pub is_clear_of : Map → Corner → StringRow → Bool
is_clear_of m c s = is_clear_of_sector m c.at (position_of m c.at) (position_of m c.after) (position_of m c.before) s

-- the corner at the end of a side
abbrev pub corner_after : Map → Side → Option Corner
corner_after m s = find (λ c. is_side s (c.before, c.at)) (all_corners m)

-- the corner after a side is empty, if the side has one
abbrev pub is_empty_after : Map → Side → Bool
is_empty_after m s = unwrap_or (option_map (is_empty_corner m) (corner_after m s)) true

-- the corners after both sides of the string are empty
abbrev pub are_empty_beside : Map → StringRow → Bool
are_empty_beside m s = is_empty_after m (side_of s) && is_empty_after m (opposite (side_of s))
