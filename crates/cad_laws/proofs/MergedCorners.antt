-- The corners of a map with two parcels merged, along a chain or with an island.
use Rattle.std.proofs.Common.{◌≡◌, ◌≢◌, ℕ, ◌≤◌, inl, inr, refl, sym, ap, subst, ◌∙◌, List, [], ◌∷◌, ◌++◌, append_assoc, length, map, reverse, Bool, true, false, None, arith}
use Rattle.std.proofs.lemmas.List.Sorted.{IsPermutation-sym, IsPermutation-trans, IsPermutation-append, IsPermutation-append_left, Contains-permutation}
use Rattle.std.proofs.lemmas.Bool.{and_parts}
use Rattle.std.proofs.lemmas.Slice.Eq.{bytes_eq-Decides}
use Rattle.std.specs.Prelude.{IsPermutation, ◌==◌, if◌then◌else◌}
use Rattle.std.specs.List.{Contains}
use Rattle.cad_rows.specs.declared.names.Face.{Face}
use Rattle.cad_rows.specs.declared.names.Face.TheVariants.{Parcel}
use Rattle.cad_rows.specs.declared.edits.Edit.TheVariants.{Merge}
use Rattle.cad_rings.specs.Cycle.{Ring, Side, sides_along, Corner, corner_back, corners_of, turned, IsSameRing}
use Rattle.cad_rings.specs.Canonical.{least_rotation}
use Rattle.cad_rings.specs.Surgery.{corner, chain_from, joined, sides_of_chain}
use Rattle.cad_rings.proofs.CallerLemmas.{is_joined, IsSameRing-append, IsSameRing-turned, IsSameRing-from_least_rotation, corners_of-same, corners_of-reversed, sides_of_chain-is}
use Rattle.cad_rings.proofs.CutCorners.{last_of, first_of}
use Rattle.cad_map.specs.declared.boundary.Boundary.{Boundary}
use Rattle.cad_map.specs.Boundaries.{is_face, bounding, canonical_order, corners_in}
use Rattle.cad_map.specs.Map.{Map, all_corners}
use Rattle.cad_map.specs.Changes.{merge, with_boundaries}
use Rattle.cad_map.specs.Effects.{after}
use Rattle.cad_map.specs.Refusals.{first_refusal}
use Rattle.cad_map.specs.Merger.{ChainInRings, shared_sides, is_along, is_around, shared_chains, handed_over, boundaries_by, boundaries_merged}
use Rattle.cad_map.specs.Merger.ChainInRings.{along, around}
use Rattle.cad_map.specs.Valid.{IsValid}
use Rattle.cad_map.proofs.CallerLemmas.{All-at_each, All-follows, IsAllowed, allowed, can-merge, corners_in-canonical_order, two_out, stays, gone, three-merged, faces-differ, rows, IsChainInRings, common-along, along-found, around-found, IsFound, found}
use Rattle.cad_laws.specs.Parting.{IsOn, IsParted, HasIsland, IsMergedBy}
use Rattle.cad_laws.proofs.PartedCorners.{is_parted}
use Rattle.cad_laws.proofs.MapCorners.{corner-in, two-sides}
use Rattle.cad_laws.proofs.IslandCorners.{has_island}
use Rattle.cad_laws.proofs.NamedParcels.{of-parcels, merged-by}

corners_in-handed : (kept ended : Face) (bs : List Boundary)
    → corners_in (map (handed_over kept ended) bs) ≡ corners_in bs
corners_in-handed kept ended [] = refl
corners_in-handed kept ended (b ∷ bs) =
    λ i. corners_of (ring-handed b i) ++ corners_in-handed kept ended bs i
  where
    ring-handed : (b : Boundary) → (handed_over kept ended b).ring ≡ b.ring
    ring-handed b = by (is_face ended b.face)
      where
        by : (t : Bool) → (if t then bounding kept b.ring else b).ring ≡ b.ring
        by true = refl
        by false = refl

module _ (m : Map) (valid : IsValid m) (kept ended : Face) (two : kept ≢ ended)
    (others : Map) where
  abbrev n : ℕ
  n = length (shared_sides m kept ended)

  -- no corner of the new rings has a side of the chain
  off-chain : (shared_chain : ChainInRings) (it : IsChainInRings m kept ended shared_chain) (c : Corner)
      → Contains (corners_in (boundaries_merged m kept ended it.k it.e it.more)) c
      → IsOn it.chain c → ⊥
  off-chain shared_chain it c h on =
      let new = boundaries_merged m kept ended it.k it.e it.more in
      let long =
      All-follows (λ b. 3 ≤ length b.ring) (λ b. 2 ≤ length b.ring)
      (λ b h. omega (arith, h)) new (three-merged m kept ended valid two shared_chain it) in
      let sides = corner-in new long c h in
      elim on [
        | inl before ↦ gone m kept ended valid two shared_chain it (c.before, c.at) before sides.0
        | inr behind ↦ gone m kept ended valid two shared_chain it (c.at, c.after) behind sides.1
      ]

  module _ (k e : Ring) (k_there : Contains m.boundaries (bounding kept k))
      (e_there : Contains m.boundaries (bounding ended e)) where
    abbrev rest : List Corner
    rest = corners_in (stays m kept ended k e)

    before : IsPermutation (all_corners m) (corners_of k ++ (corners_of e ++ rest))
    before = two_out m kept ended valid two (λ b. corners_of b.ring) k e k_there e_there

    canonical_order-as : (more : List Ring) (c : Corner)
        → Contains
        (all_corners (with_boundaries (boundaries_merged m kept ended k e more) others)) c
        → Contains (corners_in (boundaries_merged m kept ended k e more)) c
    canonical_order-as more c h =
        let bs = boundaries_merged m kept ended k e more in
        Contains-permutation (corners_in (canonical_order bs)) (corners_in bs) c
        (IsPermutation-sym (corners_in bs) (corners_in (canonical_order bs)) (corners_in-canonical_order bs)) h

    -- ---- Along a chain

    parted-along : (i j : ℕ) → is_along n (turned i k) (turned j e) ≡ true
        → (first : Corner) × (last : Corner)
        × IsParted (with_boundaries (boundaries_by m kept ended (along n k i e j)) others) m
        (chain_from i n k) first last
    unfolding along-found
    parted-along i j is =
        let common = common-along n i j k e is in
        let it = is_joined i j n k e common in
        let c = it.c in
        let d = it.d in
        let ring = joined i j n k e in
        let bs = boundaries_by m kept ended (along n k i e j) in
        let C = corners_of (c ∷ it.s ++ d ∷ it.r) in
        let turn : IsSameRing (c ∷ it.s ++ d ∷ it.r) ring =
        subst (IsSameRing (c ∷ it.s ++ d ∷ it.r)) (sym it.is)
        (IsSameRing-append (c ∷ it.s) (d ∷ it.r)) in
        let moved =
        IsPermutation-append_left rest C (corners_of ring)
        (corners_of-same (c ∷ it.s ++ d ∷ it.r) ring turn) in
        let same : corners_in bs ≡ corners_of ring ++ rest =
        ap (λ (l : List Corner). corners_of ring ++ l)
        (corners_in-handed kept ended (stays m kept ended k e)) in
        let after_is : IsPermutation (C ++ rest) (corners_in (canonical_order bs)) =
        IsPermutation-trans (C ++ rest) (corners_of ring ++ rest) (corners_in (canonical_order bs)) moved
        (subst (λ (l : List Corner). IsPermutation l (corners_in (canonical_order bs))) same
        (corners_in-canonical_order bs)) in
        let K = corners_of (c ∷ it.mid ++ d ∷ it.r) in
        let E = corners_of (d ∷ reverse it.mid ++ c ∷ it.s) in
        let kt : IsPermutation K (corners_of k) =
        subst (λ (l : List ℕ). IsPermutation (corners_of l) (corners_of k)) it.from_c
        (IsPermutation-sym (corners_of k) (corners_of (turned i k))
        (corners_of-same k (turned i k) (IsSameRing-turned i k))) in
        let et : IsPermutation E (corners_of e) =
        subst (λ (l : List ℕ). IsPermutation (corners_of l) (corners_of e)) it.from_d
        (IsPermutation-sym (corners_of e) (corners_of (turned j e))
        (corners_of-same e (turned j e) (IsSameRing-turned j e))) in
        let back : IsPermutation ((K ++ E) ++ rest) (all_corners m) =
        IsPermutation-trans ((K ++ E) ++ rest) ((corners_of k ++ corners_of e) ++ rest)
        (all_corners m)
        (IsPermutation-append_left rest (K ++ E) (corners_of k ++ corners_of e)
        (IsPermutation-append K (corners_of k) E (corners_of e) kt et))
        (subst (λ (l : List Corner). IsPermutation l (all_corners m))
        (sym (append_assoc (corners_of k) (corners_of e) rest))
        (IsPermutation-sym (all_corners m) (corners_of k ++ (corners_of e ++ rest)) before)) in
        let sides : sides_along c it.mid d ≡ sides_of_chain (chain_from i n k) =
        sym (sides_of_chain-is c it.mid d) ∙ ap sides_of_chain (sym it.chain) in
        let all = is_parted c it.s d it.r it.mid rest (with_boundaries bs others) m after_is back
        (λ x h on.
        off-chain (along n k i e j) (along-found m kept ended k e k_there e_there i j is) x
        (canonical_order-as (ring ∷ []) x h) (subst (λ (l : List Side). IsOn l x) sides on)) in
        let first = corner (last_of d it.r) c (first_of it.s d) in
        let last = corner (last_of c it.s) d (first_of it.r c) in (
          first,
          last,
          subst (λ (l : List ℕ). IsParted (with_boundaries bs others) m l first last)
              (sym it.chain) all,
        )

    -- ---- Of an island

    island-around : is_around n k e ≡ true
        → HasIsland (with_boundaries (boundaries_by m kept ended (around k e)) others) m k
    unfolding around-found
    island-around is =
        let bs = boundaries_by m kept ended (around k e) in
        let three =
        All-at_each (λ b. 2 ≤ length b.ring) m.boundaries (bounding kept k)
        (two-sides m valid) k_there in
        let parts = and_parts (n == length k) _ is in
        let turned_round =
        IsSameRing-from_least_rotation (reverse k) e
        ((bytes_eq-Decides (least_rotation (reverse k)) (least_rotation e)).0 parts.1) in
        let back =
        IsPermutation-trans (map corner_back (corners_of k)) (corners_of (reverse k))
        (corners_of e) (corners_of-reversed k) (corners_of-same (reverse k) e turned_round) in
        let same : corners_in bs ≡ rest = corners_in-handed kept ended (stays m kept ended k e) in
        has_island k three (corners_of e) rest back (with_boundaries bs others) m
        (subst (λ (l : List Corner). IsPermutation l (corners_in (canonical_order bs))) same
        (corners_in-canonical_order bs))
        (IsPermutation-sym (all_corners m) (corners_of k ++ (corners_of e ++ rest)) before)
        (λ x h on.
        off-chain (around k e) (around-found m kept ended k e k_there e_there is) x
        (canonical_order-as [] x h) on)

  -- ---- By any shared chain

  by-shared_chain : (x : ChainInRings) → IsFound m valid kept ended x
      → IsMergedBy x (with_boundaries (boundaries_by m kept ended x) others) m
  by-shared_chain x (IsFound.by_round k e k_there e_there is) = island-around k e k_there e_there is
  by-shared_chain x (IsFound.by_chain k i e j k_there e_there is) = parted-along k e k_there e_there i j is

-- A merger that is not refused takes out the corners of the chain, or of the island, that is found,
-- and makes one of two at each of the chain's ends.
pub merged-corners : (m : Map) (kept ended : Face) (x : ChainInRings) → IsValid m
    → first_refusal m (Merge kept ended) ≡ None → Contains (shared_chains m kept ended) x
    → IsMergedBy x (after m (Merge kept ended)) m
unfolding after
merged-corners m kept ended x valid none h =
    of-parcels m (λ k e. Contains (shared_chains m k e) x → IsMergedBy x (merge m k e) m) two-parcels
    kept ended (allowed m (Merge kept ended) none) h
  where
    two-parcels : (k e : ℕ) → IsAllowed m (Merge (Parcel k) (Parcel e))
        → Contains (shared_chains m (Parcel k) (Parcel e)) x
        → IsMergedBy x (merge m (Parcel k) (Parcel e)) m
    two-parcels k e free there =
        let can = can-merge m k e free in
        subst (λ (a : Map). IsMergedBy x a m) (sym (merged-by m valid k e can x there))
        (by-shared_chain m valid (Parcel k) (Parcel e) (faces-differ m k e valid can)
        (rows m k e valid can) x (found m valid (Parcel k) (Parcel e) x there))
