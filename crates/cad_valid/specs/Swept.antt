-- Tests of two strings or points by their places among many.
use Rattle.std.specs.Prelude.{ℕ, Bool, true, ◌==◌, not, ◌&&◌, if◌then◌else◌, List, ◌++◌, map, Option, Some, None, slice_get}
use Rattle.cad_map.specs.Map.{Map}
use Rattle.cad_map.specs.Valid.{is_same_position}
use Rattle.cad_valid.specs.declared.placed.Placed.{Placed}
use Rattle.cad_valid.specs.Placed.{placed_string, placed_point, meets_at_ends, is_only_end}

-- where there are two, they pass
abbrev pub both_pass : (Placed → Placed → Bool) → Option Placed → Option Placed → Bool
both_pass test (Some f) (Some g) = test f g
both_pass test (Some f) None = true
both_pass test None g = true

-- the two at these places pass; where nothing stands there is nothing to test
abbrev pub passes_at : (Placed → Placed → Bool) → List Placed → ℕ → ℕ → Bool
passes_at test items i j = both_pass test (slice_get items i) (slice_get items j)

-- two points have different positions
abbrev pub lie_apart : Placed → Placed → Bool
lie_apart f g = not (is_same_position f.a g.a)

-- a point, and no string
abbrev pub is_point : Placed → Bool
is_point f = f.from == f.to

-- two strings meet at ends alone, and a point lies on a string only as its end
abbrev pub have_no_crossing : Placed → Placed → Bool
have_no_crossing f g =
    if is_point f then (if is_point g then true else is_only_end f g)
    else (if is_point g then is_only_end g f else meets_at_ends f g)

-- two points lie apart, and any other two have no crossing
abbrev pub are_clear : Placed → Placed → Bool
are_clear f g = if is_point f && is_point g then lie_apart f g else have_no_crossing f g

-- the strings of the map
abbrev pub placed_strings : Map → List Placed
placed_strings m = map (placed_string m) m.strings

-- its points
abbrev pub placed_points : Map → List Placed
placed_points m = map placed_point m.points

-- the strings, and then the points
abbrev pub placed_rows : Map → List Placed
placed_rows m = placed_strings m ++ placed_points m
