-- Cutting a ring by a chain, joining two rings along one, and points put in and taken out.
use Rattle.std.specs.Prelude.{◌≡◌, ◌≢◌, ℕ, ◌+◌, ◌<◌, not, ◌==◌, nat_lt, List, [], ◌∷◌, ◌++◌, length, take, drop, reverse, filter, slice_range, slice_index, slice_index_or, flat_map, if◌then◌else◌, IsPermutation}
use Rattle.cad_rings.specs.Cycle.{Ring, Side, is_side, opposite, sides_of, times_along, Corner, corner_back, corners_along, corners_of, turned, IsSameRing}

-- the ring in the other direction
abbrev pub reversed : Ring → Ring
reversed ring = reverse ring

-- the sides of a chain, from its first point to its last
abbrev pub sides_of_chain : List ℕ → List Side
sides_of_chain [] = []
sides_of_chain (a ∷ []) = []
sides_of_chain (a ∷ b ∷ points) = (a, b) ∷ sides_of_chain (b ∷ points)

-- each side, and its opposite
abbrev pub both_ways : List Side → List Side
both_ways sides = flat_map (λ s. s ∷ opposite s ∷ []) sides

-- the corners of a chain, at the points between its first and its last
abbrev pub corners_of_chain : List ℕ → List Corner
corners_of_chain [] = []
corners_of_chain (a ∷ []) = []
corners_of_chain (a ∷ b ∷ points) = corners_along a b points

-- each corner, and the same one back
abbrev pub corners_both_ways : List Corner → List Corner
corners_both_ways corners = flat_map (λ c. c ∷ corner_back c ∷ []) corners

-- ---- Cut by a chain

-- the points from place i on, up to the one before place j, going round the end where j is not after i
abbrev pub stretch : ℕ → ℕ → Ring → List ℕ
stretch i j ring = if nat_lt i j then slice_range ring i j else drop i ring ++ take j ring

-- a chain from the point at place i through inner points to the point at place j
abbrev pub chain_across : ℕ → ℕ → List ℕ → Ring → List ℕ
chain_across i j inner ring = slice_index ring i ∷ inner ++ slice_index ring j ∷ []

-- two places of a ring
pub record AreTwoPlaces (i j : ℕ) (ring : Ring) : Type 0 where
  pub first : i < length ring
  pub second : j < length ring
  pub apart : i ≢ j

-- the side leads from place i of the ring, and the ring goes along it once
pub record LeavesOnce (i : ℕ) (s : Side) (ring : Ring) : Type 0 where
  pub within : i < length ring
  pub is : slice_index_or (sides_of ring) i s ≡ s
  pub once : times_along s ring ≡ 1

-- Places i and j of a ring are places k and l of the same ring written from another point on: the same two sides lead from them.
pub record AreSamePlaces (i j : ℕ) (r : Ring) (k l : ℕ) (s : Ring) : Type 0 where
  pub same : IsSameRing r s
  pub two : AreTwoPlaces i j r
  pub two_there : AreTwoPlaces k l s
  pub first : Side
  pub first_here : LeavesOnce i first r
  pub first_there : LeavesOnce k first s
  pub second : Side
  pub second_here : LeavesOnce j second r
  pub second_there : LeavesOnce l second s

-- the two corners that a side from a corner's point to w makes of the corner
abbrev pub parted_by : ℕ → Corner → List Corner
parted_by w c = record { before = c.before; at = c.at; after = w } ∷ record { before = w; at = c.at; after = c.after } ∷ []

-- what is left of the chain across: the chain, and the ring from the chain's end back to its beginning
abbrev pub left_ring : ℕ → ℕ → List ℕ → Ring → Ring
left_ring i j inner ring = slice_index ring i ∷ inner ++ stretch j i ring

-- what is right of the chain across: the chain backwards, and the ring from the chain's beginning to its end
abbrev pub right_ring : ℕ → ℕ → List ℕ → Ring → Ring
right_ring i j inner ring = slice_index ring j ∷ reverse inner ++ stretch i j ring

-- ---- Joined along a chain

-- the first points of the ring from its place i on, with m sides between them
abbrev pub chain_from : ℕ → ℕ → Ring → List ℕ
chain_from i m ring = take (m + 1) (turned i ring)

-- Two rings have m sides in common, from place i of one and in the opposite direction from place j of the other on, and each has another side.
pub record HaveChainInCommon (i j m : ℕ) (kept ended : Ring) : Type 0 where
  pub some : 0 < m
  pub more_in_kept : m < length kept
  pub more_in_ended : m < length ended
  pub common : chain_from i m kept ≡ reverse (chain_from j m ended)

-- the ring round both: each ring from the end of the chain to its beginning
abbrev pub joined : ℕ → ℕ → ℕ → Ring → Ring → Ring
joined i j m kept ended = drop m (turned i kept) ++ drop m (turned j ended)

-- ---- Points put in and taken out

-- the point is put on the side, between its two ends
abbrev pub put_on : Side → ℕ → Ring → Ring
put_on side p ring = flat_map (λ s. if is_side side s then s.0 ∷ p ∷ [] else s.0 ∷ []) (sides_of ring)

-- what becomes of a side where a point is put on the side it is
abbrev pub halves_by : Side → ℕ → Side → List Side
halves_by side p s = if is_side side s then (s.0, p) ∷ (p, s.1) ∷ [] else s ∷ []

-- the ring without the point
abbrev pub without : ℕ → Ring → Ring
without p ring = filter (λ q. not (q == p)) ring

-- the corner at v, between p and n
abbrev pub corner : ℕ → ℕ → ℕ → Corner
corner p v n = record { before = p; at = v; after = n }

-- With v between w and n, and without it, the two rings have the same corners else: u comes before w, and x after n.
pub record StandsBetween (w v n : ℕ) (with_it without_it : Ring) : Type 0 where
  pub u : ℕ
  pub x : ℕ
  pub is : IsPermutation (corner u w n ∷ corner w n x ∷ corners_of with_it) (corner u w v ∷ corner w v n ∷ corner v n x ∷ corners_of without_it)
