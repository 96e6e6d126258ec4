-- The land of a parcel: its area, and where its boundary turns.
use Rattle.std.specs.Prelude.{Bool, not, ◌&&◌, ◌||◌, List, map, filter}
use Rattle.std.specs.List.{flat_map, list_all, list_any}
use Rattle.std.specs.List.Sorted.{IsSortedBy}
use Rattle.std.specs.Ordering.{int_cmp, int_eq, is_lt, ordering_then}
use Rattle.geo_exact.specs.Measure.{doubled_area}
use Rattle.geo_exact.specs.Orientation.{is_left, is_right}
use Rattle.geo_exact.specs.Position.{Position}
use Rattle.cad_rows.specs.declared.names.Face.{Face}
use Rattle.cad_rings.specs.Cycle.{Corner, Ring, corners_of}
use Rattle.cad_map.specs.Map.{Map, position_of, rings_of, sum_of_face}
use Rattle.cad_map.specs.Valid.{is_same_position}

-- ---- Where a boundary turns

-- from before over at to after it turns left or right
abbrev pub is_turn : Position → Position → Position → Bool
is_turn before at after = is_left before at after || is_right before at after

-- at this corner
abbrev pub turns_at : Map → Corner → Bool
turns_at m c = is_turn (position_of m c.before) (position_of m c.at) (position_of m c.after)

-- where these corners are turns
abbrev pub turns_among : Map → List Corner → List Position
turns_among m corners = map (λ c. position_of m c.at) (filter (turns_at m) corners)

-- where a ring turns
unfoldable pub turns_round : Map → Ring → List Position
turns_round m ring = turns_among m (corners_of ring)

-- where the rings of a face turn
abbrev pub turns_of : Map → Face → List Position
turns_of m face = flat_map (turns_round m) (rings_of m face)

-- ---- The same places

-- from the west to the east, and of those with one x from the south to the north
abbrev pub is_before : Position → Position → Bool
is_before a b = is_lt (ordering_then (int_cmp a.x b.x) (int_cmp a.y b.y))

abbrev pub AreInOrder : List Position → Type 0
AreInOrder = IsSortedBy is_before

-- the position is one of these
unfoldable pub is_among : List Position → Position → Bool
is_among places a = list_any (is_same_position a) places

-- each of these is one of those, and each of those one of these
unfoldable pub are_same_places : List Position → List Position → Bool
are_same_places these those = list_all (is_among those) these && list_all (is_among these) those

-- those of these places that aren't among others
unfoldable pub apart_from : List Position → List Position → List Position
apart_from others these = filter (λ a. not (is_among others a)) these

-- ---- The same land

-- a face is as large in both maps, and turns at the same places
unfoldable pub is_same_land : Map → Map → Face → Bool
is_same_land old new face =
    int_eq (sum_of_face doubled_area old face) (sum_of_face doubled_area new face)
    && are_same_places (turns_of old face) (turns_of new face)
