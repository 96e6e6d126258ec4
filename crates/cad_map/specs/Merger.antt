-- What two parcels have in common, and the boundaries after they are merged.
use Rattle.std.specs.Prelude.{ℕ, ◌+◌, Bool, not, ◌&&◌, ◌||◌, ◌==◌, nat_lt, List, [], ◌∷◌, ◌++◌, length, reverse, take, map, filter, if◌then◌else◌}
use Rattle.std.specs.List.{flat_map}
use Rattle.std.specs.Str.{bytes_eq as is_same_list}
use Rattle.cad_rows.specs.declared.rows.StringRow.{StringRow}
use Rattle.cad_rows.specs.declared.names.Face.{Face}
use Rattle.cad_rings.specs.Cycle.{Ring, Side, has_side, opposite, turned}
use Rattle.cad_rings.specs.Canonical.{least_rotation}
use Rattle.cad_rings.specs.Surgery.{joined}
use Rattle.cad_map.specs.declared.boundary.Boundary.{Boundary}
use Rattle.cad_map.specs.Boundaries.{is_face, bounding}
use Rattle.cad_map.specs.Map.{Map, rings_of, face_sides, side_of}
use Rattle.cad_map.specs.Chain.{are_distinct}

-- the sides of the kept face with the ended one on their other side
abbrev pub shared_sides : Map → Face → Face → List Side
shared_sides m kept ended = filter (λ s. has_side (opposite s) (face_sides m ended)) (face_sides m kept)

-- a string with the two faces on its sides
abbrev pub is_shared : Map → Face → Face → StringRow → Bool
is_shared m kept ended s = has_side (side_of s) (shared_sides m kept ended) || has_side (opposite (side_of s)) (shared_sides m kept ended)

-- Where the two have one chain in common, or one has the other as an island.
pub data ChainInRings : Type 0 where
  -- the kept ring from its place i on begins with the chain c0 .. cm, and the ended ring from its place j on with cm .. c0
  along : (m : ℕ) (kept : Ring) (i : ℕ) (ended : Ring) (j : ℕ) → ChainInRings
  -- the kept ring and the ended ring are each other's reverse
  around : (kept ended : Ring) → ChainInRings

-- Of so many shared sides: they are the first of the two rings, written from those places on, their points differ, and each ring has another side.
abbrev pub is_along : ℕ → Ring → Ring → Bool
is_along m kept ended =
    nat_lt 0 m && is_same_list (take (m + 1) kept) (reverse (take (m + 1) ended)) && are_distinct (take (m + 1) kept) && nat_lt m (length kept) && nat_lt m (length ended)

-- the shared sides are just those of the kept ring, whose reverse is the ended ring
abbrev pub is_around : ℕ → Ring → Ring → Bool
is_around m kept ended = (m == length kept) && is_same_list (least_rotation (reverse kept)) (least_rotation ended)

-- the places of a list, from this number on
abbrev pub places : ℕ → List ℕ → List ℕ
places i [] = []
places i (x ∷ xs) = i ∷ places (i + 1) xs

-- the shared chains of two rings, with so many shared sides: for each two places it is looked whether the rings written from them on begin with the chain
abbrev pub shared_chains_of_rings : ℕ → Ring → Ring → List ChainInRings
shared_chains_of_rings m kept ended =
    (if is_around m kept ended then around kept ended ∷ [] else [])
    ++ flat_map (λ i. flat_map (λ j. if is_along m (turned i kept) (turned j ended) then along m kept i ended j ∷ [] else []) (places 0 ended)) (places 0 kept)

-- The shared chains of two parcels. In a valid map there is at most one: any two give the same boundaries, as the law `one_shared_chain` says.
abbrev pub shared_chains : Map → Face → Face → List ChainInRings
shared_chains m kept ended = flat_map (λ k. flat_map (λ e. shared_chains_of_rings (length (shared_sides m kept ended)) k e) (rings_of m ended)) (rings_of m kept)

-- one of the two rings that the merger takes out
abbrev pub is_taken_out : Face → Face → Ring → Ring → Boundary → Bool
is_taken_out kept ended k e b = (is_face kept b.face && is_same_list k b.ring) || (is_face ended b.face && is_same_list e b.ring)

-- a ring of the ended face goes to the kept one
abbrev pub handed_over : Face → Face → Boundary → Boundary
handed_over kept ended b = if is_face ended b.face then bounding kept b.ring else b

-- the boundaries with the two rings taken out, every other ring of the ended face given to the kept one, and these rings more
abbrev pub boundaries_merged : Map → Face → Face → Ring → Ring → List Ring → List Boundary
boundaries_merged m kept ended k e more = map (bounding kept) more ++ map (handed_over kept ended) (filter (λ b. not (is_taken_out kept ended k e b)) m.boundaries)

abbrev pub boundaries_by : Map → Face → Face → ChainInRings → List Boundary
boundaries_by m kept ended (along n k i e j) = boundaries_merged m kept ended k e (joined i j n k e ∷ [])
boundaries_by m kept ended (around k e) = boundaries_merged m kept ended k e []
