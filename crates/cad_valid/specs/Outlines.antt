-- Rings with a doubled area, and how many of them are outlines.
use Rattle.std.specs.Prelude.{ℕ, ℤ, pos, Bool, ◌||◌, List, count_by, int_lt}
use Rattle.std.specs.List.{list_all}
use Rattle.cad_rings.specs.Cycle.{Ring}
use Rattle.cad_map.specs.Map.{Map, is_positive, is_negative}

-- the ring's doubled area isn't zero
abbrev pub is_either : Map → Ring → Bool
is_either m ring = is_positive m ring || is_negative m ring

-- how many doubled areas are positive, and whether all others are negative
pub record Counted : Type 0 where
  pub outlines : ℕ
  pub is_sound : Bool

-- what doubled areas tell
abbrev pub outlines_among : List ℤ → Counted
outlines_among areas = record {
  outlines = count_by (int_lt (pos 0)) areas;
  is_sound = list_all (λ a. int_lt (pos 0) a || int_lt a (pos 0)) areas;
}
