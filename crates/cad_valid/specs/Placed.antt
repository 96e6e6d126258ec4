-- Strings with the positions of their ends, and tests of where two of them may meet.
use Rattle.std.specs.Prelude.{◌≡◌, ℕ, Bool, ◌==◌, ◌&&◌, ◌||◌, not, if◌then◌else◌}
use Rattle.geo_exact.specs.Position.{Position}
use Rattle.geo_exact.specs.SignTest.{passes_signs}
use Rattle.cad_rows.specs.declared.rows.PointRow.{PointRow}
use Rattle.cad_rows.specs.declared.rows.StringRow.{StringRow}
use Rattle.cad_map.specs.Map.{Map, position_of}
use Rattle.cad_valid.specs.declared.placed.Placed.{Placed}

-- a string of the map as it lies there
abbrev pub placed_string : Map → StringRow → Placed
placed_string m s =
    record { from = s.from; to = s.to; a = position_of m s.from; b = position_of m s.to }

-- a point, as a string from itself to itself
abbrev pub placed_point : PointRow → Placed
placed_point p = record { from = p.number; to = p.number; a = p.position; b = p.position }

-- it lies where the map has its ends
pub record IsPlacedIn (m : Map) (f : Placed) : Type 0 where
  pub first : f.a ≡ position_of m f.from
  pub second : f.b ≡ position_of m f.to

abbrev pub is_placed_end : Placed → ℕ → Bool
is_placed_end f p = (f.from == p) || (f.to == p)

-- the position of the string's end p
abbrev pub near_position : Placed → ℕ → Position
near_position f p = if f.from == p then f.a else f.b

-- the position of its other end
abbrev pub far_position : Placed → ℕ → Position
far_position f p = if f.from == p then f.b else f.a

-- whether the segments ab and cd have a common location
unfoldable pub have_common : Position → Position → Position → Position → Bool
have_common a b c d = passes_signs a b c d

-- of two strings with a shared end neither has the other's far end
abbrev pub meets_only_at : Placed → Placed → ℕ → Bool
meets_only_at f g p =
    let start = near_position f p in
    let a = far_position f p in
    let b = far_position g p in
    not (have_common start a b b) && not (have_common start b a a)

-- two strings have no common location but a shared end
abbrev pub meets_at_ends : Placed → Placed → Bool
meets_at_ends f g =
    if is_placed_end g f.from then meets_only_at f g f.from
    else (if is_placed_end g f.to then meets_only_at f g f.to else not (have_common f.a f.b g.a g.b))

-- a point doesn't lie on a string, or is one of its ends
abbrev pub is_only_end : Placed → Placed → Bool
is_only_end p f = is_placed_end f p.from || not (have_common f.a f.b p.a p.a)
