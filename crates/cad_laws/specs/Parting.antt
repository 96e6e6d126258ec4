-- Two maps of which one has a chain more: in a division it is the one after, in a merger the one
-- before.
use Rattle.std.specs.Prelude.{◌≡◌, ◌≢◌, ℕ, List, ◌⊎◌}
use Rattle.std.specs.List.{Contains}
use Rattle.cad_rings.specs.Cycle.{Ring, Side, sides_of, Corner, corner_back, corners_of}
use Rattle.cad_rings.specs.Surgery.{corner, both_ways, sides_of_chain, corners_of_chain, chain_from}
use Rattle.cad_map.specs.Chain.{start_of, next_of, end_of, last_but_one}
use Rattle.cad_map.specs.Map.{Map, all_corners}
use Rattle.cad_map.specs.Merger.{ChainInRings}
use Rattle.cad_map.specs.Merger.ChainInRings.{along, around}

-- a ring of the map has the corner
abbrev pub HasCorner : Map → Corner → Type 0
HasCorner m c = Contains (all_corners m) c

-- the corner has one of these sides, in one direction or the other
abbrev pub IsOn : List Side → Corner → Type 0
IsOn sides c =
    Contains (both_ways sides) (c.before, c.at) ⊎ Contains (both_ways sides) (c.at, c.after)

-- The second map has the corners of the first, but for two that the chain parts in two each, and
-- the chain's own, both ways.
pub record IsParted (whole parted : Map) (chain : List ℕ) (first last : Corner) : Type 0 where
  pub first_there : HasCorner whole first
  pub first_at : first.at ≡ start_of chain
  pub last_there : HasCorner whole last
  pub last_at : last.at ≡ end_of chain
  -- the two corners into which the chain parts the first one, and those of the last one
  pub to_start : HasCorner parted (corner first.before (start_of chain) (next_of chain))
  pub from_start : HasCorner parted (corner (next_of chain) (start_of chain) first.after)
  pub to_end : HasCorner parted (corner last.before (end_of chain) (last_but_one chain))
  pub from_end : HasCorner parted (corner (last_but_one chain) (end_of chain) last.after)
  -- the chain's corners, and those back
  pub along : (c : Corner) → Contains (corners_of_chain chain) c → HasCorner parted c
  pub back : (c : Corner) → Contains (corners_of_chain chain) c → HasCorner parted (corner_back c)
  -- every other corner of the first map
  pub stays : (c : Corner) → HasCorner whole c → c ≢ first → c ≢ last → HasCorner parted c
  -- And the other way: a corner of the second map with no side of the chain is one of the first,
  -- which has none with a side of the chain.
  pub joins : (c : Corner) → HasCorner parted c → ¬ IsOn (sides_of_chain chain) c
      → HasCorner whole c
  pub free : (c : Corner) → HasCorner whole c → ¬ IsOn (sides_of_chain chain) c

-- The second map has the corners of the first, and those of an island, both ways.
pub record HasIsland (whole parted : Map) (ring : Ring) : Type 0 where
  pub along : (c : Corner) → Contains (corners_of ring) c → HasCorner parted c
  pub back : (c : Corner) → Contains (corners_of ring) c → HasCorner parted (corner_back c)
  pub stays : (c : Corner) → HasCorner whole c → HasCorner parted c
  pub joins : (c : Corner) → HasCorner parted c → ¬ IsOn (sides_of ring) c → HasCorner whole c
  pub free : (c : Corner) → HasCorner whole c → ¬ IsOn (sides_of ring) c

-- What a merger takes out, by the shared chain that is found: read from the map after it, the map before
-- has the chain, or the island, more.
abbrev pub IsMergedBy : ChainInRings → Map → Map → Type 0
IsMergedBy (along n k i e j) merged m =
    (first : Corner) × (last : Corner) × IsParted merged m (chain_from i n k) first last
IsMergedBy (around k e) merged m = HasIsland merged m k
