-- Rings in the plane.
use Rattle.std.specs.Prelude.{◌≡◌, ℕ, ℤ, pos, int_lt, Bool, true, not, ◌&&◌, ◌||◌, ⊤, List, [], ◌∷◌, map, filter, fold, min, slice_get, option_map, option_and_then, unwrap_or}
use Rattle.std.specs.List.{AllByRecursion, list_all}
use Rattle.geo_exact.specs.Position.{Position}
use Rattle.geo_exact.specs.Inside.{is_inside}
use Rattle.geo_exact.specs.Measure.{doubled_area, sum_over}
use Rattle.cad_rings.specs.Cycle.{Ring, Side, sides_of, placed, anchor_of}
use Rattle.cad_map.specs.Valid.{each_pair}
use Rattle.sweep.specs.declared.extent.Extent.{Extent}
use Rattle.cad_valid.specs.Extents.{IsWithin}

-- the positions at the ends of a ring's sides, and that of its anchor
pub record Shape : Type 0 where
  pub sides : List (Position × Position)
  pub anchor : Position

-- the ring, where its points have these positions
abbrev pub shape_of : (ℕ → Position) → Ring → Shape
shape_of position ring = record { sides = placed position (sides_of ring); anchor = position (anchor_of ring) }

-- the ring of these sides, whose anchor is the least of their first points and of this one
abbrev pub shape_along : (ℕ → Position) → ℕ → List Side → Shape
shape_along position first sides = record { sides = placed position sides; anchor = position (fold min first (map (λ s. s.0) sides)) }

-- its doubled area
abbrev pub area_of : Shape → ℤ
area_of shape = sum_over doubled_area shape.sides

-- it is positive
abbrev pub is_outline : Shape → Bool
is_outline shape = int_lt (pos 0) (area_of shape)

-- it is negative
abbrev pub is_hole : Shape → Bool
is_hole shape = int_lt (area_of shape) (pos 0)

-- these are rings
pub record AreShapes (shapes : List Shape) : Type 0 where
  pub position : ℕ → Position
  pub rings : List Ring
  pub are : shapes ≡ map (shape_of position) rings

-- neither has the other's anchor inside
abbrev pub are_shapes_apart : Shape → Shape → Bool
are_shapes_apart a b = not (is_inside a.sides b.anchor) && not (is_inside b.sides a.anchor)

-- the same of those at two places; where there is none, nothing stands in the way
abbrev pub are_apart_at : List Shape → ℕ → ℕ → Bool
are_apart_at shapes i j =
    unwrap_or (option_and_then (λ a. option_map (λ b. are_shapes_apart a b) (slice_get shapes j)) (slice_get shapes i)) true

-- the box has the ring and its anchor in it
pub record Encloses (e : Extent) (shape : Shape) : Type 0 where
  pub anchor : IsWithin e shape.anchor
  pub sides : AllByRecursion (λ s. IsWithin e s.0 × IsWithin e s.1) shape.sides

-- each box has the ring at its place in it
abbrev pub AreEnclosed : List Extent → List Shape → Type 0
AreEnclosed [] [] = ⊤
AreEnclosed (e ∷ extents) (shape ∷ shapes) = Encloses e shape × AreEnclosed extents shapes
AreEnclosed [] (shape ∷ shapes) = ⊥
AreEnclosed (e ∷ extents) [] = ⊥

-- ---- The rings of a face

-- outlines and holes, and whether there is no other ring
pub record ToldApart : Type 0 where
  pub outlines : List Shape
  pub holes : List Shape
  pub have_areas : Bool

-- these rings, told apart by their doubled areas
abbrev pub told_apart : List Shape → ToldApart
told_apart shapes = record {
  outlines = filter is_outline shapes;
  holes = filter is_hole shapes;
  have_areas = list_all (λ s. is_outline s || is_hole s) shapes;
}

-- each hole's anchor is inside each outline, and of two holes neither has the other's inside
abbrev pub are_sound : ToldApart → Bool
are_sound face =
    list_all (λ hole. list_all (λ outline. is_inside outline.sides hole.anchor) face.outlines) face.holes
    && each_pair are_shapes_apart face.holes
