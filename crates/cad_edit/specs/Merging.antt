-- The two rings along a shared chain, and the ring that they become.
use Rattle.std.specs.Prelude.{⊤, ℕ, IsTrue, List, [], ◌∷◌}
use Rattle.cad_rows.specs.declared.names.Face.{Face}
use Rattle.cad_rings.specs.Cycle.{Ring, Side, has_side, opposite, sides_of}
use Rattle.cad_rings.specs.Surgery.{HaveChainInCommon, joined}
use Rattle.cad_map.specs.declared.boundary.Boundary.{Boundary}
use Rattle.cad_map.specs.declared.shared_chain.SharedChain.{SharedChain}
use Rattle.cad_map.specs.declared.shared_chain.SharedChain.TheVariants.{Along, Around}
use Rattle.cad_map.specs.Boundaries.{bounding}
use Rattle.cad_map.specs.Division.{place_of}

-- the side of the kept ring that tells it: the first of the chain
abbrev pub kept_side : SharedChain → Side
kept_side (Along first last sides) = first
kept_side (Around side) = side

-- the side of the ended ring that tells it: the first of the chain back
abbrev pub ended_side : SharedChain → Side
ended_side (Along first last sides) = opposite last
ended_side (Around side) = opposite side

-- the two rings have the chain in common, from those sides on
pub record HaveAlong (first back : Side) (sides : ℕ) (kept ended : Ring) : Type 0 where
  pub has_first : IsTrue (has_side first (sides_of kept))
  pub has_back : IsTrue (has_side back (sides_of ended))
  pub common : HaveChainInCommon (place_of first kept) (place_of back ended) sides kept ended

abbrev pub CanBeJoined : SharedChain → Ring → Ring → Type 0
CanBeJoined (Along first last sides) kept ended = HaveAlong first (opposite last) sides kept ended
CanBeJoined (Around side) kept ended = ⊤

-- the ring round both along their chain, and none where each is the other's reverse
abbrev pub rings_joined : Face → Ring → Ring → SharedChain → List Boundary
rings_joined face kept ended (Along first last sides) = bounding face (joined (place_of first kept) (place_of (opposite last) ended) sides kept ended) ∷ []
rings_joined face kept ended (Around side) = []
