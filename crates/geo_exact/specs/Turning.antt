-- The order in which a turn about a point meets directions.
use Rattle.std.specs.Prelude.{Bool, not, ◌&&◌, ◌||◌, int_lt, int_le, if◌then◌else◌}
use Rattle.geo_exact.specs.Position.{Position}
use Rattle.geo_exact.specs.Orientation.{is_left}

-- a lies north of v, or on its height and east of it: counterclockwise from the east it is in the first half of a turn
abbrev pub is_ahead : Position → Position → Bool
is_ahead v a = int_lt v.y a.y || (int_le v.y a.y && int_lt v.x a.x)

-- a turn counterclockwise about v that begins in the east meets the direction to a before the one to b
abbrev pub is_met_first : Position → Position → Position → Bool
is_met_first v a b =
    if is_ahead v a then (not (is_ahead v b) || is_left v a b) else (not (is_ahead v b) && is_left v a b)
