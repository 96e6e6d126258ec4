-- The chain that two parcels share, found by the first and the last of the kept parcel's sides.
use Rattle.std.proofs.Common.{◌≡◌, ℕ, ◌+◌, ◌<◌, suc, add-one, true, refl, sym, ap, subst, ◌∙◌, List, map, filter, length, take, not, Some}
use Rattle.std.specs.List.{Contains}
use Rattle.std.proofs.lemmas.List.{take-map}
use Rattle.std.proofs.lemmas.List.Sorted.{Contains-permutation, IsPermutation-sym}
use Rattle.cad_rows.specs.declared.edits.Edit.TheVariants.{Merge}
use Rattle.cad_rows.specs.declared.names.Face.{Face}
use Rattle.cad_rows.specs.declared.names.Face.TheVariants.{Parcel}
use Rattle.cad_rings.specs.Cycle.{Ring, Side, opposite, sides_of, turned}
use Rattle.cad_rings.specs.Surgery.{chain_from}
use Rattle.cad_rings.proofs.CallerLemmas.{IsSameRing-turned, sides_of-same}
use Rattle.cad_map.specs.declared.boundary.Boundary.{Boundary}
use Rattle.cad_map.specs.declared.shared_chain.SharedChain.TheVariants.{Along}
use Rattle.cad_map.specs.Boundaries.{bounding}
use Rattle.cad_map.specs.Map.{Map, all_sides}
use Rattle.cad_map.specs.Merger.{ChainInRings, is_along, shared_chains, shared_sides}
use Rattle.cad_map.specs.Merger.ChainInRings.{along, around}
use Rattle.cad_map.specs.SharedChains.{IsChainOf, IsSharedChain}
use Rattle.cad_map.specs.Valid.{IsValid}
use Rattle.cad_map.specs.Walk.{first_side}
use Rattle.cad_map.proofs.CallerLemmas.{IsFound, found, whole_valid, All-from_each, Contains-flat_map}
use Rattle.half_table.specs.declared.half.Half.{Half}
use Rattle.half_table.specs.Cycle.{holds}
use Rattle.half_table.specs.Half.{twin}
use Rattle.half_table.specs.Rows.{HalfRows, has, next, origin_of, cycle}
use Rattle.half_paths.specs.Path.{AreIn}
use Rattle.cad_laws.specs.Local.{side_by}
use Rattle.cad_laws.specs.Tried.{IsTried}
use Rattle.map_parts.specs.Labels.{IsAlong}
use Rattle.map_parts.specs.Parts.{Parts, FitTogether, map_of, kept_at}
use Rattle.map_parts.proofs.PartsRings.{in_table}
use Rattle.cad_surgery.specs.Mergers.{HasFoundPath}
use Rattle.cad_surgery.proofs.HalvesRound.{all-shown}
use Rattle.cad_surgery.proofs.SharedPaths as shared

-- Two faces share so many sides along a chain: the kept ring, from its place on, begins with the
-- first side, the ended ring with the last one back.
record IsChainAt (m : Map) (kept ended : Face) (first last : Side) (sides : ℕ) : Type 0 where
  pub k : Ring
  pub i : ℕ
  pub e : Ring
  pub j : ℕ
  pub many : sides ≡ length (shared_sides m kept ended)
  pub there : Contains (shared_chains m kept ended) (along (length (shared_sides m kept ended)) k i e j)
  pub k_there : Contains m.boundaries (bounding kept k)
  pub e_there : Contains m.boundaries (bounding ended e)
  pub is : is_along (length (shared_sides m kept ended)) (turned i k) (turned j e) ≡ true
  pub begins : first_side (turned i k) ≡ Some first
  pub ends : first_side (turned j e) ≡ Some (opposite last)

-- what is said of a chain that two parcels share, and of a ring nothing
abbrev AreAlongRings : Map → Face → Face → ChainInRings → Type 0
AreAlongRings m kept ended (along n k i e j) =
    (n ≡ length (shared_sides m kept ended)) × Contains m.boundaries (bounding kept k) × Contains m.boundaries (bounding ended e)
    × (is_along (length (shared_sides m kept ended)) (turned i k) (turned j e) ≡ true)
AreAlongRings m kept ended (around k e) = Unit {0}

are-along : (m : Map) (valid : IsValid m) (kept ended : Face) (x : ChainInRings) → IsFound m valid kept ended x → AreAlongRings m kept ended x
are-along m valid kept ended x (IsFound.by_round k e k_there e_there is) = tt
are-along m valid kept ended x (IsFound.by_chain k i e j k_there e_there is) = (refl, k_there, e_there, is)

chain-at : (m : Map) (kept ended : Face) (first last : Side) (sides : ℕ) (x : ChainInRings) → Contains (shared_chains m kept ended) x
    → IsChainOf x (Along first last sides) → AreAlongRings m kept ended x → IsChainAt m kept ended first last sides
chain-at m kept ended first last sides (around k e) there never facts = absurd never
chain-at m kept ended first last sides (along n k i e j) there at facts = record {
  k = k;
  i = i;
  e = e;
  j = j;
  many = at.as_many ∙ facts.0;
  there = subst (λ (q : ℕ). Contains (shared_chains m kept ended) (along q k i e j)) facts.0 there;
  k_there = facts.1;
  e_there = facts.2;
  is = facts.3;
  begins = at.begins;
  ends = at.ends;
}

module _ (d : Parts) (fit : FitTogether d) (keeper : Face) (ended : ℕ) (tried : IsTried (map_of d) (Merge keeper (Parcel ended)))
    (first last : Side) (sides : ℕ) (told : IsSharedChain (map_of d) keeper (Parcel ended) (Along first last sides)) where
  abbrev m : Map
  m = map_of d

  abbrev rows : HalfRows
  rows = d.table.rows

  at : IsChainAt m keeper (Parcel ended) first last sides
  at =
      chain-at m keeper (Parcel ended) first last sides told.shared_chain told.there told.is
      (are-along m tried.valid keeper (Parcel ended) told.shared_chain (found m tried.valid keeper (Parcel ended) told.shared_chain told.there))

  on-ended : Contains (sides_of at.e) (opposite last)
  on-ended =
      Contains-permutation (sides_of (turned at.j at.e)) (sides_of at.e) (opposite last)
      (IsPermutation-sym (sides_of at.e) (sides_of (turned at.j at.e)) (sides_of-same at.e (turned at.j at.e) (IsSameRing-turned at.j at.e)))
      (shared.first-there (turned at.j at.e) (opposite last) at.ends)

  -- the half with which the ended ring begins is there
  pub begin-there : Contains (all_sides m) (opposite last)
  begin-there = Contains-flat_map (λ (b : Boundary). sides_of b.ring) m.boundaries (bounding (Parcel ended) at.e) (opposite last) at.e_there on-ended

  module _ (h : Half) (h_along : IsAlong m rows (opposite last) h) where
    begins : first_side (turned at.j at.e) ≡ Some (side_by rows h)
    begins = at.ends ∙ ap Some (sym h_along.side)

    -- and so is the chain's last
    pub finish-there : Contains (all_sides m) (opposite first)
    finish-there =
        Contains-flat_map (λ (b : Boundary). sides_of b.ring) m.boundaries (bounding (Parcel ended) at.e) (opposite first) at.e_there
        (shared.ends-there d fit keeper ended tried at.k at.i at.e at.j at.k_there at.e_there at.is at.there h h_along.shown begins first at.begins)

    -- the chain has fewer sides than the ring
    pub fewer : sides < length (cycle rows h)
    fewer = subst (λ (q : ℕ). q < length (cycle rows h)) (sym at.many) (shared.more-round d fit keeper ended tried at.k at.i at.e at.j at.k_there at.e_there at.is at.there h h_along.shown begins)

    -- the first of its halves are in the table
    pub round-in : (k : ℕ) → AreIn rows (take k (cycle rows h))
    round-in k =
        All-from_each (λ g. has rows g ≡ true) (take k (cycle rows h)) (λ g among.
        in_table d fit g (all-shown d fit (whole_valid m tried.valid) (Parcel ended) at.e at.e_there h h_along.shown (subst (Contains (sides_of at.e)) (sym h_along.side) on-ended) g
        (shared.take-in k (cycle rows h) g among)))

    module _ (g : Half) (g_along : IsAlong m rows (opposite first) g) (ring : List Half) (ring_is : ring ≡ cycle rows h) (path : List Half) (path_is : path ≡ take sides ring)
        (chain : List ℕ) (chain_is : chain ≡ map (origin_of rows) (take (sides + 1) ring)) (own : List Half) (own_is : own ≡ kept_at d (Parcel ended))
        (moved : List Half) (moved_is : moved ≡ filter (λ k. not (holds ring k)) own) (start end : Half) (start_is : start ≡ next rows (twin h)) (end_is : end ≡ next rows g) where
      path_same : take (length (shared_sides m keeper (Parcel ended))) (cycle rows h) ≡ path
      path_same = sym (path_is ∙ (λ q. take (at.many q) (ring_is q)))

      chain_same : chain_from at.j (length (shared_sides m keeper (Parcel ended))) at.e ≡ chain
      chain_same =
          shared.chain-round d fit keeper ended tried at.k at.i at.e at.j at.k_there at.e_there at.is at.there h h_along.shown begins
          ∙ take-map (origin_of rows) (suc (length (shared_sides m keeper (Parcel ended)))) (cycle rows h)
          ∙ sym (chain_is ∙ (λ q. map (origin_of rows) (take (at.many q + 1) (ring_is q))) ∙ ap (λ (l : ℕ). map (origin_of rows) (take l (cycle rows h))) (add-one (length (shared_sides m keeper (Parcel ended)))))

      -- what the merger goes by
      pub found-path : HasFoundPath m rows keeper ended path chain start end moved
      found-path =
          subst (λ (t : List Half × List ℕ × Half × Half). HasFoundPath m rows keeper ended t.0 t.1 t.2 t.3 moved)
          (λ q. (path_same q, chain_same q, sym start_is q, sym end_is q))
          (shared.path-found d fit keeper ended tried at.k at.i at.e at.j at.k_there at.e_there at.is at.there h h_along.shown begins g g_along.shown first at.begins g_along.side moved
          (moved_is ∙ (λ q. filter (λ k. not (holds (ring_is q) k)) (own_is q))))
