-- What an edit makes of the areas of faces.
use Rattle.std.specs.Prelude.{◌≡◌, ◌≢◌, ℕ, ℤ, pos, ◌+ℤ◌, ◌-ℤ◌, List, [], ◌∷◌, if◌then◌else◌}
use Rattle.geo_exact.specs.Position.{Position}
use Rattle.geo_exact.specs.Measure.{doubled_area}
use Rattle.cad_rows.specs.declared.edits.Edit.{Edit}
use Rattle.cad_rows.specs.declared.edits.Edit.TheVariants.{Merge}
use Rattle.cad_rows.specs.declared.names.Face.{Face}
use Rattle.cad_rows.specs.declared.rows.StringRow.{StringRow}
use Rattle.cad_rings.specs.Cycle.{Side, has_side}
use Rattle.cad_map.specs.Map.{Map, position_of, far_end, face_sides}

-- the face that an edit ends
abbrev pub ended_by : Edit → List Face
ended_by (Merge kept ended) = ended ∷ []
ended_by _ = []

-- a number that counts where the face has the side
abbrev pub if_beside : Map → Face → Side → ℤ → ℤ
if_beside m f s z = if has_side s (face_sides m f) then z else pos 0

-- ---- A point that goes from a to b

-- the map with the point at a position, and all else where it is
pub record HasPointAt (m other : Map) (p : ℕ) (at : Position) : Type 0 where
  pub here : position_of other p ≡ at
  pub elsewhere : (q : ℕ) → q ≢ p → position_of other q ≡ position_of m q
  pub boundaries : other.boundaries ≡ m.boundaries

-- what the side from the point to r then has more in twice an area
abbrev pub swept : Position → Position → Position → ℤ
swept a b r = doubled_area b r -ℤ doubled_area a r

-- what the two sides along one of the point's strings have more in twice the area of a face
abbrev pub swept_beside : Map → Face → ℕ → Position → Position → StringRow → ℤ
swept_beside m f p a b s =
    if_beside m f (p, far_end s p) (swept a b (position_of m (far_end s p)))
    -ℤ if_beside m f (far_end s p, p) (swept a b (position_of m (far_end s p)))

-- a number for each string, added up
abbrev pub sum_of_strings : (StringRow → ℤ) → List StringRow → ℤ
sum_of_strings f [] = pos 0
sum_of_strings f (s ∷ ss) = f s +ℤ sum_of_strings f ss

-- ---- A point between two others

-- twice the area between the sides from a by p to b and the side from a to b
abbrev pub bend_at : Map → ℕ → ℕ → ℕ → ℤ
bend_at m p a b =
    doubled_area (position_of m a) (position_of m p)
    +ℤ doubled_area (position_of m p) (position_of m b)
    -ℤ doubled_area (position_of m a) (position_of m b)

-- what a face that goes round by the point has more in twice its area
abbrev pub bend_beside : Map → Face → ℕ → ℕ → ℕ → ℤ
bend_beside m f p a b =
    if_beside m f (a, p) (bend_at m p a b) -ℤ if_beside m f (p, a) (bend_at m p a b)
