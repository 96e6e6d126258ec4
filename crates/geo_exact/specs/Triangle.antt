-- What lies outside of a triangle.
use Rattle.std.specs.Prelude.{Bool, ◌&&◌, ◌||◌, if◌then◌else◌}
use Rattle.geo_exact.specs.Position.{Position}
use Rattle.geo_exact.specs.Orientation.{is_left, is_right}

-- r lies beyond one of the sides of the triangle abc; of one without area nothing lies outside
abbrev pub is_outside : Position → Position → Position → Position → Bool
is_outside a b c r =
    if is_left a b c then (is_right a b r || (is_right b c r || is_right c a r))
    else (is_right a b c && (is_left a b r || (is_left b c r || is_left c a r)))
