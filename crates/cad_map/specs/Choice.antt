-- The corners of which one is chosen, and the first of them.
use Rattle.std.specs.Prelude.{◌≡◌, ℕ, ◌≤◌, List, Option, Some, None, IsTrue}
use Rattle.std.specs.List.{Contains}
use Rattle.cad_rows.specs.declared.names.Face.{Face}
use Rattle.cad_rings.specs.Cycle.{Corner}
use Rattle.cad_map.specs.Map.{Map, face_corners}
use Rattle.cad_map.specs.Chain.{has_in_sector}

-- a corner of the face at the point, after a side from one of these points, with w in its sector
pub record MayBeChosen (m : Map) (face : Face) (at w : ℕ) (befores : List ℕ) (c : Corner) : Type 0 where
  pub there : Contains (face_corners m face) c
  pub comes_from : Contains befores c.before
  pub stands : c.at ≡ at
  pub has : IsTrue (has_in_sector m c w)

-- the corner of these whose following point has the least number, and none where there are none
abbrev pub IsFirst : (Corner → Type 0) → Option Corner → Type 0
IsFirst P None = (c : Corner) → ¬ P c
IsFirst P (Some c) = P c × ((d : Corner) → P d → c.after ≤ d.after)
