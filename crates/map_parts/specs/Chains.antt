-- A chain that comes across a face, or goes from it: a division, or a merger along a chain.
use Rattle.std.specs.Prelude.{◌≡◌, ◌≢◌, ℕ, List, ◌∷◌, ◌++◌, map, IsPermutation}
use Rattle.std.specs.List.{Contains}
use Rattle.cad_rows.specs.declared.names.Face.{Face}
use Rattle.cad_rings.specs.Cycle.{Ring, Side, opposite, sides_of, Corner}
use Rattle.cad_rings.specs.Surgery.{both_ways, sides_of_chain, chain_from, joined}
use Rattle.cad_map.specs.declared.boundary.Boundary.{Boundary}
use Rattle.cad_map.specs.Boundaries.{bounding, canonical_form}
use Rattle.cad_map.specs.Map.{Map}
use Rattle.cad_map.specs.Merger.{handed_over}
use Rattle.cad_laws.specs.Parting.{IsParted}

-- The second map has a chain across one ring of the outer face: left of it a ring of the inner face,
-- right of it one of the outer face. The inner face's other rings are the outer one's in the first
-- map.
pub record IsChainOf (whole parted : Map) (outer inner : Face) (chain : List ℕ) (first last : Corner) (one left right : Boundary) (others : List Boundary) : Type 0 where
  pub corners : IsParted whole parted chain first last
  pub differ : outer ≢ inner
  pub one_face : one.face ≡ outer
  pub left_face : left.face ≡ inner
  pub right_face : right.face ≡ outer
  -- the two rings share out the sides of the one, and have the chain's besides: the left one those
  -- along it, the right one those back
  pub hands : IsPermutation (sides_of left.ring ++ sides_of right.ring) (both_ways (sides_of_chain chain) ++ sides_of one.ring)
  pub along : (s : Side) → Contains (sides_of_chain chain) s → Contains (sides_of left.ring) s
  pub back : (s : Side) → Contains (sides_of_chain chain) s → Contains (sides_of right.ring) (opposite s)
  pub were : IsPermutation parted.boundaries (left ∷ right ∷ others)
  pub are : IsPermutation (one ∷ map (handed_over outer inner) others) whole.boundaries

-- What a merger along a chain takes out, read from the map after it to the one before: the ended
-- face's ring is left of the chain.
abbrev pub IsTakenChain : Map → Map → Face → Face → ℕ → Ring → ℕ → Ring → ℕ → Type 0
IsTakenChain m after kept ended n k i e j = (first : Corner) × (last : Corner) × (others : List Boundary)
    × IsChainOf after m kept ended (chain_from j n e) first last (canonical_form (bounding kept (joined i j n k e))) (bounding ended e) (bounding kept k) others
