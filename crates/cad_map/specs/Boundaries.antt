-- The rings of a map's faces, and their canonical order.
use Rattle.std.specs.Prelude.{◌≡◌, ◌⊎◌, ◌<◌, ◌≤◌, ◌-◌, ℕ, suc, nat_lt, length, slice_index_or, Bool, true, false, not, ◌==◌, List, [], ◌∷◌, filter, if◌then◌else◌}
use Rattle.std.specs.List.{flat_map}
use Rattle.std.specs.List.Sorted.{IsPartitionPoint}
use Rattle.cad_rows.specs.declared.names.Face.{Face}
use Rattle.cad_rows.specs.declared.names.Face.TheVariants.{Outside, Parcel}
use Rattle.cad_rings.specs.Cycle.{Ring, Side, sides_of, Corner, corners_of}
use Rattle.cad_rings.specs.Canonical.{comes_first, least_rotation}
use Rattle.cad_map.specs.declared.boundary.Boundary.{Boundary}

abbrev pub is_face : Face → Face → Bool
is_face Outside Outside = true
is_face (Parcel m) (Parcel n) = m == n
is_face Outside (Parcel n) = false
is_face (Parcel m) Outside = false

-- this ring, with the face to its left
abbrev pub bounding : Face → Ring → Boundary
bounding face ring = record { face = face; ring = ring }

-- the sides of all these rings
abbrev pub sides_in : List Boundary → List Side
sides_in bs = flat_map (λ b. sides_of b.ring) bs

-- the corners of all these rings
abbrev pub corners_in : List Boundary → List Corner
corners_in bs = flat_map (λ b. corners_of b.ring) bs

-- ---- The canonical order

-- the outside comes first, and then parcels by their numbers
abbrev pub face_place : Face → ℕ
face_place Outside = 0
face_place (Parcel n) = suc n

-- the ring as its least rotation
abbrev pub canonical_form : Boundary → Boundary
canonical_form b = bounding b.face (least_rotation b.ring)

-- by faces, and at one face by the rings
abbrev pub boundary_comes_first : Boundary → Boundary → Bool
boundary_comes_first a b = comes_first (face_place a.face ∷ a.ring) (face_place b.face ∷ b.ring)

-- put before the first that it comes before
abbrev pub put_in_canonical_order : Boundary → List Boundary → List Boundary
put_in_canonical_order a [] = a ∷ []
put_in_canonical_order a (b ∷ bs) = if boundary_comes_first a b then a ∷ b ∷ bs else b ∷ put_in_canonical_order a bs

-- each ring as its least rotation, in order: how a map has its boundaries, however they are kept
abbrev pub canonical_order : List Boundary → List Boundary
canonical_order [] = []
canonical_order (b ∷ bs) = put_in_canonical_order (canonical_form b) (canonical_order bs)

-- the rings of all faces but this one
abbrev pub without_face : Face → List Boundary → List Boundary
without_face face bs = filter (λ b. not (is_face b.face face)) bs

-- ---- Where those of a face stand

-- the place parts these into those of faces below a bound, and those of faces from it on
abbrev pub IsFirstFrom : List Boundary → ℕ → ℕ → Type 0
IsFirstFrom bs bound at =
    IsPartitionPoint (λ b. nat_lt (face_place b.face) bound ≡ true)
    (λ b. nat_lt (face_place b.face) bound ≡ false) bs at

-- the one before the place, if there is one, is of a face below a bound
abbrev pub EndsBelow : List Boundary → ℕ → ℕ → Type 0
EndsBelow bs bound at =
    (at ≡ 0) ⊎ ((d : Boundary) → face_place (slice_index_or bs (at - 1) d).face < bound)

-- the one at the place, if there is one, is of a face from the bound on
abbrev pub BeginsFrom : List Boundary → ℕ → ℕ → Type 0
BeginsFrom bs bound at =
    (at ≡ length bs) ⊎ ((d : Boundary) → bound ≤ face_place (slice_index_or bs at d).face)
