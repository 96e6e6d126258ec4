-- What becomes of the boundaries of a map, and of the faces of its sides, in a division, an
-- enclosure and a merger.
use Rattle.std.specs.Prelude.{◌≡◌, ℕ, not, List, [], ◌∷◌, ◌++◌, map, filter, ◌⊎◌, IsPermutation, if◌then◌else◌}
use Rattle.std.specs.List.{Contains}
use Rattle.cad_rows.specs.declared.names.Face.{Face}
use Rattle.cad_rings.specs.Cycle.{Ring, Side, has_side, opposite, sides_of, Corner}
use Rattle.cad_rings.specs.Surgery.{both_ways, left_ring, right_ring, sides_of_chain, chain_from, joined}
use Rattle.cad_map.specs.declared.boundary.Boundary.{Boundary}
use Rattle.cad_map.specs.Boundaries.{is_face, bounding, canonical_form}
use Rattle.cad_map.specs.Map.{Map}
use Rattle.cad_map.specs.Views.{HasSide}
use Rattle.cad_map.specs.Chain.{inner_of, leaving}
use Rattle.cad_map.specs.Division.{place_of, hole_placed}
use Rattle.cad_map.specs.Merger.{ChainInRings, handed_over}
use Rattle.cad_map.specs.Merger.ChainInRings.{along, around}

-- ---- A division and an enclosure

-- a hole of the face goes to the new one, and the side is of it
pub record IsOfMoved (m : Map) (face new : Face) (left : Ring) (s : Side) : Type 0 where
  pub hole : Boundary
  pub there : Contains m.boundaries hole
  pub has : Contains (sides_of hole.ring) s
  pub was : hole.face ≡ face
  pub moves : (hole_placed m face new left hole).face ≡ new

-- the side is of the ring that goes to the new face, or of a hole that goes there
abbrev pub IsOfNew : Map → Face → Face → Ring → Side → Type 0
IsOfNew m face new left s = Contains (sides_of left) s ⊎ IsOfMoved m face new left s

-- the boundaries with the two new rings, and with the holes of the others where they go
abbrev pub placed_with : Map → Face → Face → Ring → Ring → List Boundary → List Boundary
placed_with m face new left right others =
    canonical_form (bounding new left) ∷ canonical_form (bounding face right) ∷ map
    (hole_placed m face new left) others

-- These rings of the face go, two come in their place, and the others stay, but for the holes that
-- go to the new face.
pub record HasPlaced (m after : Map) (face new : Face) (gone : List Boundary) (left right : Ring)
    (others : List Boundary) : Type 0 where
  pub were : IsPermutation m.boundaries (gone ++ others)
  pub are : IsPermutation (placed_with m face new left right others) after.boundaries
  -- which face has each side now
  pub on_left : (s : Side) → Contains (sides_of left) s → HasSide after new s
  pub on_right : (s : Side) → Contains (sides_of right) s → HasSide after face s
  pub of_others : (b : Boundary) (s : Side) → Contains others b → Contains (sides_of b.ring) s
      → HasSide after (hole_placed m face new left b).face s
  -- a side that a face had it has, or the face is the one that gives and the side goes to the new
  -- one
  pub old : (f : Face) (s : Side) → HasSide m f s
      → HasSide after f s ⊎ ((f ≡ face) × IsOfNew m face new left s)

-- the ring left of a chain from one corner of the ring to another
abbrev pub left_of_chain : List ℕ → Corner → Corner → Ring → Ring
left_of_chain chain first last ring =
    left_ring (place_of (leaving first) ring) (place_of (leaving last) ring) (inner_of chain) ring

-- and the ring right of it
abbrev pub right_of_chain : List ℕ → Corner → Corner → Ring → Ring
right_of_chain chain first last ring =
    right_ring (place_of (leaving first) ring) (place_of (leaving last) ring) (inner_of chain) ring

-- the boundaries that don't have the side that leaves the corner
abbrev pub uncut : Map → Corner → List Boundary
uncut m first = filter (λ b. not (has_side (leaving first) (sides_of b.ring))) m.boundaries

-- One ring of the face has both corners, and is cut: what is left of the chain goes to the new
-- face.
pub record IsDividedIn (m after : Map) (face new : Face) (chain : List ℕ)
    (first last : Corner) : Type 0 where
  pub cut : Boundary
  pub there : Contains m.boundaries cut
  pub is : face ≡ cut.face
  pub has_first : Contains (sides_of cut.ring) (leaving first)
  pub has_last : Contains (sides_of cut.ring) (leaving last)
  -- the two rings share out the sides of the one, and have the chain's besides, the left one those
  -- along it and the right one those back
  pub hands : IsPermutation
      (sides_of (left_of_chain chain first last cut.ring) ++ sides_of
      (right_of_chain chain first last cut.ring))
      (both_ways (sides_of_chain chain) ++ sides_of cut.ring)
  pub along : (s : Side) → Contains (sides_of_chain chain) s
      → Contains (sides_of (left_of_chain chain first last cut.ring)) s
  pub back : (s : Side) → Contains (sides_of_chain chain) s
      → Contains (sides_of (right_of_chain chain first last cut.ring)) (opposite s)
  pub placed : HasPlaced m after face new (cut ∷ []) (left_of_chain chain first last cut.ring)
      (right_of_chain chain first last cut.ring) (uncut m first)

-- ---- A merger

-- the face that has a face's rings after the merger
abbrev pub over : Face → Face → Face → Face
over kept ended f = if is_face ended f then kept else f

-- the boundaries with these rings more in the kept face, and with the ended face's others handed
-- over
abbrev pub merged_with : Face → Face → List Ring → List Boundary → List Boundary
merged_with kept ended more others =
    map (λ r. canonical_form (bounding kept r)) more ++ map (handed_over kept ended) others

-- Of each of the two faces a ring goes, and the ended one's other rings are the kept one's.
pub record HasMerged (m after : Map) (kept ended : Face) (chain : List Side) (k e : Ring)
    (more : List Ring) (others : List Boundary) : Type 0 where
  pub were : IsPermutation m.boundaries (bounding kept k ∷ bounding ended e ∷ others)
  pub are : IsPermutation (merged_with kept ended more others) after.boundaries
  -- a side that isn't of the chain has the face that has its face's rings
  pub faces : (f : Face) (s : Side) → HasSide m f s → ¬ Contains (both_ways chain) s
      → HasSide after (over kept ended f) s
  -- and one of the chain had the kept face, with the ended one on its other hand
  pub in_kept : (s : Side) → Contains chain s → HasSide m kept s
  pub in_ended : (s : Side) → Contains chain s → HasSide m ended (opposite s)

-- along a chain two rings become the one round both, and round an island two rings go
abbrev pub IsMergedIn : ChainInRings → Map → Map → Face → Face → Type 0
IsMergedIn (along n k i e j) m after kept ended = (others : List Boundary)
    × HasMerged m after kept ended (sides_of_chain (chain_from i n k)) k e
    (joined i j n k e ∷ []) others
IsMergedIn (around k e) m after kept ended = (others : List Boundary)
    × HasMerged m after kept ended (sides_of k) k e [] others
