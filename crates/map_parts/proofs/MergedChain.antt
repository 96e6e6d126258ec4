-- A merger along a chain, read from the map after it to the one before.
use Rattle.std.proofs.Common.{◌≡◌, ◌≢◌, ℕ, Bool, true, false, not, ◌==◌, List, [], ◌∷◌, ◌++◌, map, filter, refl, sym, ap, ◌∙◌, subst}
use Rattle.std.specs.Prelude.{IsPermutation}
use Rattle.std.specs.List.{Contains}
use Rattle.std.proofs.lemmas.Bool.{eqb-true}
use Rattle.std.proofs.lemmas.Cmp.{nat_eq_equiv}
use Rattle.std.proofs.lemmas.List.Sorted.{IsPermutation-trans, IsPermutation-append, IsPermutation-append_comm, IsPermutation-middle}
use Rattle.cad_rows.specs.declared.edits.Edit.TheVariants.{Merge}
use Rattle.cad_rows.specs.declared.names.Face.{Face}
use Rattle.cad_rows.specs.declared.names.Face.TheVariants.{Outside, Parcel}
use Rattle.cad_rows.specs.declared.rows.ParcelRow.{ParcelRow}
use Rattle.cad_rings.specs.Cycle.{Ring, Side, sides_of, opposite}
use Rattle.cad_rings.specs.Surgery.{both_ways, sides_of_chain, chain_from, joined}
use Rattle.cad_rings.proofs.CallerLemmas.{sides_of-joined, sides_of-least_rotation}
use Rattle.cad_map.specs.Boundaries.{is_face, bounding, canonical_form}
use Rattle.cad_map.specs.Changes.{merge}
use Rattle.cad_map.specs.Effects.{after}
use Rattle.cad_map.specs.Map.{Map, faces, has_face}
use Rattle.cad_map.specs.Merger.{ChainInRings, shared_chains}
use Rattle.cad_map.specs.Merger.ChainInRings.{along, around}
use Rattle.numbered_rows.specs.Rows.{without_row}
use Rattle.cad_map.specs.Valid.{IsValid}
use Rattle.cad_map.proofs.CallerLemmas.{IsAllowed, allowed, can-merge, faces-differ, IsFound, found, common-along, along-found, Contains-filter}
use Rattle.cad_laws.specs.Faces.{IsMergedIn}
use Rattle.cad_laws.specs.Parting.{IsMergedBy, IsParted}
use Rattle.cad_laws.specs.Tried.{IsTried}
use Rattle.cad_laws.proofs.CallerLemmas.{merged-corners, merged-faces, of-parcels}
use Rattle.map_parts.specs.Chains.{IsTakenChain}
use Rattle.map_parts.specs.Handing.{HaveTwoFaces}
use Rattle.map_parts.proofs.KeptHalves.{face-known}
use Rattle.map_parts.proofs.KeptShown.{bare}
use Rattle.map_parts.proofs.ReversedChain.{side-turned, both-turned, parted-reversed}

module _ (m a : Map) (valid : IsValid m) (kept ended : Face) (two : kept ≢ ended) where
  -- what is said of a chain, and of an island nothing
  abbrev Told : ChainInRings → Type 0
  Told (along n k i e j) = IsTakenChain m a kept ended n k i e j
  Told (around k e) = Unit {0}

  told : (x : ChainInRings) → IsFound m valid kept ended x → IsMergedIn x m a kept ended → IsMergedBy x a m → Told x
  unfolding along-found
  told x (IsFound.by_round k e k_there e_there is) faces corners = tt
  told x (IsFound.by_chain k i e j k_there e_there is) faces corners =
      let common = common-along _ i j k e is in
      let it = along-found m kept ended k e k_there e_there i j is in
      let others = faces.0 in
      let law = faces.1 in
      let ring = joined i j _ k e in
      let own = chain_from j _ e in
      let there : (s : Side) → Contains (sides_of_chain own) s → Contains it.chain (opposite s) =
      λ s on. subst (λ (l : List ℕ). Contains (sides_of_chain l) (opposite s)) (sym common.common) (side-turned own s on) in (
        corners.1,
        corners.0,
        others,
        record {
          corners = parted-reversed a m own corners.0 corners.1 (subst (λ (l : List ℕ). IsParted a m l corners.0 corners.1) common.common corners.2);
          differ = two;
          one_face = refl;
          left_face = refl;
          right_face = refl;
          hands =
              let shown = sides_of (canonical_form (bounding kept ring)).ring in
              let both = both_ways (sides_of_chain (chain_from i _ k)) in
              let turned : IsPermutation both (both_ways (sides_of_chain own)) =
              subst (λ (l : List ℕ). IsPermutation (both_ways (sides_of_chain l)) (both_ways (sides_of_chain own))) (sym common.common) (both-turned own) in
              IsPermutation-trans (sides_of e ++ sides_of k) (sides_of k ++ sides_of e) (both_ways (sides_of_chain own) ++ shown) (IsPermutation-append_comm (sides_of e) (sides_of k))
              (IsPermutation-trans (sides_of k ++ sides_of e) (both ++ sides_of ring) (both_ways (sides_of_chain own) ++ shown) (sides_of-joined i j _ k e common)
              (IsPermutation-append both (both_ways (sides_of_chain own)) (sides_of ring) shown turned (sides_of-least_rotation ring)));
          along = λ s on. it.in_ended (opposite s) (there s on);
          back = λ s on. it.in_kept (opposite s) (there s on);
          were =
              IsPermutation-trans m.boundaries (bounding kept k ∷ bounding ended e ∷ others) (bounding ended e ∷ bounding kept k ∷ others) law.were
              (IsPermutation-middle (bounding kept k ∷ []) (bounding ended e) others);
          are = law.are;
        },
      )

-- ---- A merger that is tried

pub faces-apart : (m : Map) (kept ended : Face) → IsTried m (Merge kept ended) → kept ≢ ended
faces-apart m kept ended tried =
    of-parcels m (λ k e. k ≢ e) (λ k e allow. faces-differ m k e tried.valid (can-merge m k e allow)) kept ended (allowed m (Merge kept ended) tried.allowed)

pub merged-chain : (m : Map) (kept ended : Face) (n : ℕ) (k : Ring) (i : ℕ) (e : Ring) (j : ℕ) → IsTried m (Merge kept ended) → Contains (shared_chains m kept ended) (along n k i e j)
    → IsTakenChain m (after m (Merge kept ended)) kept ended n k i e j
merged-chain m kept ended n k i e j tried there =
    told m (after m (Merge kept ended)) tried.valid kept ended (faces-apart m kept ended tried) (along n k i e j) (found m tried.valid kept ended (along n k i e j) there)
    (merged-faces m kept ended (along n k i e j) tried.valid tried.allowed there) (merged-corners m kept ended (along n k i e j) tried.valid tried.allowed there)

-- the ended parcel is the one face more
pub merged-face : (m : Map) (kept ended : Face) → IsTried m (Merge kept ended) → HaveTwoFaces (after m (Merge kept ended)) m kept ended × (has_face (after m (Merge kept ended)) ended ≡ false)
unfolding after
merged-face m kept ended tried =
    of-parcels m (λ k e. HaveTwoFaces (merge m k e) m k e × (has_face (merge m k e) e ≡ false)) each kept ended (allowed m (Merge kept ended) tried.allowed)
  where
    left-out : (n : ℕ) (ps : List ParcelRow) → filter (λ f. not (is_face (Parcel n) f)) (map (λ (p : ParcelRow). Parcel p.number) ps) ≡ map (λ (p : ParcelRow). Parcel p.number) (without_row (λ (p : ParcelRow). p.number) n ps)
    left-out n [] = refl
    left-out n (p ∷ ps) = by (n == p.number) refl (left-out n ps)
      where
        by : (t : Bool) → (n == p.number) ≡ t → filter (λ f. not (is_face (Parcel n) f)) (map (λ (p : ParcelRow). Parcel p.number) ps) ≡ map (λ (p : ParcelRow). Parcel p.number) (without_row (λ (p : ParcelRow). p.number) n ps)
            → filter (λ f. not (is_face (Parcel n) f)) (map (λ (p : ParcelRow). Parcel p.number) (p ∷ ps)) ≡ map (λ (p : ParcelRow). Parcel p.number) (without_row (λ (p : ParcelRow). p.number) n (p ∷ ps))
        by true is rest = rw (is, nat_eq_equiv.symm p.number n ∙ is) rest
        by false is rest = rw (is, nat_eq_equiv.symm p.number n ∙ is) (ap (λ (l : List Face). Parcel p.number ∷ l) rest)

    gone : (n : ℕ) (ps : List ParcelRow) → has_face (record m { parcels = without_row (λ (p : ParcelRow). p.number) n ps }) (Parcel n) ≡ false
    gone n [] = refl
    gone n (p ∷ ps) = by (p.number == n) refl (gone n ps)
      where
        by : (t : Bool) → (p.number == n) ≡ t → has_face (record m { parcels = without_row (λ (p : ParcelRow). p.number) n ps }) (Parcel n) ≡ false → has_face (record m { parcels = without_row (λ (p : ParcelRow). p.number) n (p ∷ ps) }) (Parcel n) ≡ false
        by true is rest = rw is rest
        by false is rest = rw (is, is) rest

    each : (k e : ℕ) → IsAllowed m (Merge (Parcel k) (Parcel e)) → HaveTwoFaces (merge m (Parcel k) (Parcel e)) m (Parcel k) (Parcel e) × (has_face (merge m (Parcel k) (Parcel e)) (Parcel e) ≡ false)
    each k e free =
        let can = can-merge m k e free in
        let faces_are : filter (λ f. not (is_face (Parcel e) f)) (faces m) ≡ faces (merge m (Parcel k) (Parcel e)) = ap (λ (l : List Face). Outside ∷ l) (left-out e m.parcels) in (
          record {
            rest = faces_are;
            inner_there = face-known (bare m []) (Parcel e) can.ended_there;
            outer_there =
                subst (λ (l : List Face). Contains l (Parcel k)) faces_are
                (Contains-filter (λ f. not (is_face (Parcel e) f)) (faces m) (Parcel k) (face-known (bare m []) (Parcel k) can.kept_there) (ap not (apart k e can.two)));
          },
          gone e m.parcels,
        )
      where
        apart : (k e : ℕ) → k ≢ e → (e == k) ≡ false
        apart k e two = by (e == k) refl
          where
            by : (t : Bool) → (e == k) ≡ t → (e == k) ≡ false
            by true is = absurd (two (sym (eqb-true e k is)))
            by false is = is
