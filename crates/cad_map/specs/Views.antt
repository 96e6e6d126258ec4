-- What a look at a map answers of its rings.
use Rattle.std.specs.Prelude.{◌≡◌, ℕ, Option, Some, IsTrue, IsFalse, option_map, option_and_then}
use Rattle.std.specs.List.{Contains}
use Rattle.cad_rows.specs.declared.rows.StringRow.{StringRow}
use Rattle.cad_rows.specs.declared.names.Face.{Face}
use Rattle.cad_rings.specs.Cycle.{Side, has_side, opposite}
use Rattle.cad_rings.specs.Surgery.{corner}
use Rattle.cad_map.specs.Map.{Map, string_of, side_of, face_sides, all_sides, all_corners, left_face, right_face}

-- the face has the side
abbrev pub HasSide : Map → Face → Side → Type 0
HasSide m face side = IsTrue (has_side side (face_sides m face))

-- no face has the side
abbrev pub IsNoSide : Map → Side → Type 0
IsNoSide m side = IsFalse (has_side side (all_sides m))

-- in a ring w comes after the side
abbrev pub ComesAfter : Map → Side → ℕ → Type 0
ComesAfter m side w = Contains (all_corners m) (corner side.0 side.1 w)

-- beyond q, a neighbour of p: what comes before the side from q to p, and what comes after the side from p to q
pub record AreBeyond (m : Map) (p q before after : ℕ) : Type 0 where
  pub comes : ComesAfter m (before, q) p
  pub goes : ComesAfter m (p, q) after

-- the string with the number has these faces, to its left and to its right
pub record HasFaces (m : Map) (number : ℕ) (left right : Face) : Type 0 where
  pub string : StringRow
  pub there : string_of m number ≡ Some string
  pub on_left : HasSide m left (side_of string)
  pub on_right : HasSide m right (opposite (side_of string))

-- no string has the number, or one of its sides is in no ring
abbrev pub HasNoFaces : Map → ℕ → Type 0
HasNoFaces m number = (left right : Face) → ¬ HasFaces m number left right

-- the faces that the sides of a string stand with first
abbrev pub faces_beside : Map → ℕ → Option (Face × Face)
faces_beside m number = option_and_then (λ s. option_and_then (λ l. option_map (λ r. (l, r)) (right_face m s)) (left_face m s)) (string_of m number)
