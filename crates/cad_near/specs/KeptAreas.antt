-- Areas of faces that are kept, so that they needn't be added up again.
use Rattle.std.specs.Prelude.{◌≡◌, ℕ, ℤ, ◌+ℤ◌, Bool, not, ◌&&◌, ◌||◌, List, Option, Some, IfSome, is_some, nat_eq}
use Rattle.std.specs.Map.{lookup}
use Rattle.geo_exact.specs.Measure.{doubled_area}
use Rattle.cad_rows.specs.declared.names.Face.{Face}
use Rattle.cad_map.specs.Boundaries.{face_place}
use Rattle.cad_map.specs.Map.{Map, sum_of_face}

-- twice the areas of some faces, each under the place of its face, and whether one was forgotten
pub record KeptAreas : Type 0 where
  pub areas : List (ℕ × ℤ)
  pub has_gaps : Bool

-- what is kept of a face
abbrev pub area_at : KeptAreas → Face → Option ℤ
area_at kept f = lookup (nat_eq (face_place f)) kept.areas

-- each area that is kept is the face's
abbrev pub HoldsAreas : KeptAreas → Map → Type 0
HoldsAreas kept m =
    (f : Face) → IfSome (area_at kept f) (λ area. area ≡ sum_of_face doubled_area m f)

-- where an area is kept of the face, one was kept before, and it is more by z
abbrev pub Gains : KeptAreas → KeptAreas → Face → ℤ → Type 0
Gains old new f z =
    IfSome (area_at new f) (λ area. (was : ℤ) × (area_at old f ≡ Some was) × (area ≡ was +ℤ z))

-- a gap is told of where one was told of, or the area that was kept of the face is gone
abbrev pub TellsGap : KeptAreas → KeptAreas → Face → Type 0
TellsGap old new f =
    new.has_gaps ≡ old.has_gaps || (is_some (area_at old f) && not (is_some (area_at new f)))
