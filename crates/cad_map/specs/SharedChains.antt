-- Where the chain that two faces share lies in their rings.
use Rattle.std.specs.Prelude.{◌≡◌, ℕ, Some}
use Rattle.std.specs.List.{Contains}
use Rattle.cad_rows.specs.declared.names.Face.{Face}
use Rattle.cad_rings.specs.Cycle.{Ring, Side, opposite, sides_of, turned}
use Rattle.cad_map.specs.Map.{Map}
use Rattle.cad_map.specs.Merger.{ChainInRings, shared_chains}
use Rattle.cad_map.specs.Merger.ChainInRings.{along, around}
use Rattle.cad_map.specs.Walk.{first_side}
use Rattle.cad_map.specs.declared.shared_chain.SharedChain.{SharedChain}
use Rattle.cad_map.specs.declared.shared_chain.SharedChain.TheVariants.{Along, Around}

-- The chain has as many sides; the kept ring is written from its first side on, and the ended ring from the opposite of its last.
pub record BeginsEndsAt (first last : Side) (sides n : ℕ) (kept : Ring) (i : ℕ) (ended : Ring) (j : ℕ) : Type 0 where
  pub as_many : sides ≡ n
  pub begins : first_side (turned i kept) ≡ Some first
  pub ends : first_side (turned j ended) ≡ Some (opposite last)

-- the chain lies there in the two rings, or has a side of the ring that is shared as a whole
abbrev pub IsChainOf : ChainInRings → SharedChain → Type 0
IsChainOf (along n k i e j) (Along first last sides) = BeginsEndsAt first last sides n k i e j
IsChainOf (around k e) (Around side) = Contains (sides_of k) side
IsChainOf (along n k i e j) (Around side) = ⊥
IsChainOf (around k e) (Along first last sides) = ⊥

-- the two faces share the chain
pub record IsSharedChain (m : Map) (kept ended : Face) (chain : SharedChain) : Type 0 where
  pub shared_chain : ChainInRings
  pub there : Contains (shared_chains m kept ended) shared_chain
  pub is : IsChainOf shared_chain chain
