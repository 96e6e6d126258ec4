-- The boundaries and the faces of sides after a merger.
use Rattle.std.proofs.Common.{◌≡◌, ◌≢◌, ℕ, inl, inr, refl, sym, ap, subst, ◌∙◌, List, [], ◌∷◌, ◌++◌, map, Bool, true, false, None, Some}
use Rattle.std.proofs.lemmas.List.{map-append}
use Rattle.std.proofs.lemmas.List.Elements.{Contains-append_cases}
use Rattle.std.proofs.lemmas.List.Sorted.{Contains-permutation}
use Rattle.std.proofs.lemmas.Option.{same_Some}
use Rattle.std.specs.Prelude.{IsPermutation, flat_map, if◌then◌else◌}
use Rattle.std.specs.List.{Contains}
use Rattle.cad_rows.specs.declared.names.Face.{Face}
use Rattle.cad_rows.specs.declared.names.Face.TheVariants.{Parcel}
use Rattle.cad_rows.specs.declared.edits.Edit.TheVariants.{Merge}
use Rattle.cad_rings.specs.Cycle.{Side, opposite, sides_of}
use Rattle.cad_rings.specs.Surgery.{both_ways}
use Rattle.cad_map.specs.declared.boundary.Boundary.{Boundary}
use Rattle.cad_map.specs.Boundaries.{is_face, bounding, canonical_form, canonical_order, sides_in}
use Rattle.cad_map.specs.Map.{Map, all_sides}
use Rattle.cad_map.specs.Changes.{merge, with_boundaries}
use Rattle.cad_map.specs.Effects.{after}
use Rattle.cad_map.specs.Refusals.{first_refusal}
use Rattle.cad_map.specs.Merger.{ChainInRings, shared_chains, handed_over, boundaries_by, boundaries_merged}
use Rattle.cad_map.specs.Merger.ChainInRings.{along, around}
use Rattle.cad_map.specs.Views.{HasSide}
use Rattle.cad_map.specs.Valid.{IsValid}
use Rattle.cad_map.proofs.CallerLemmas.{IsAllowed, allowed, can-merge, Contains-in_part, Contains-flat_map, beside, has_side-Contains, Contains-has_side, one_ring, face-told, IsPermutation-canonical_order, two_out, stays, sides-parted, was-beside, of_face, faces-differ, rows, filter-Contains, IsChainInRings, along-found, around-found, IsFound, found}
use Rattle.cad_laws.specs.Faces.{over, HasMerged, IsMergedIn}
use Rattle.cad_laws.proofs.PlacedFaces.{has-side_canonical, as-shown, map-same, map-map}
use Rattle.cad_laws.proofs.NamedParcels.{of-parcels, merged-by}

singles : {X : Type 0} (xs : List X) → flat_map (λ x. x ∷ []) xs ≡ xs
singles [] = refl
singles (x ∷ xs) = λ i. x ∷ singles xs i

module _ (m : Map) (valid : IsValid m) (kept ended : Face) (two : kept ≢ ended) (others : Map)
    (shared_chain : ChainInRings) (it : IsChainInRings m kept ended shared_chain) where
  abbrev left : List Boundary
  left = stays m kept ended it.k it.e

  abbrev new : List Boundary
  new = boundaries_merged m kept ended it.k it.e it.more

  abbrev made : Map
  made = with_boundaries new others

  shown-handed : (b : Boundary) → Contains left b
      → canonical_form (handed_over kept ended b) ≡ handed_over kept ended b
  shown-handed b h = by (is_face ended b.face)
    where
      same : canonical_form b ≡ b
      same = as-shown m valid b (filter-Contains _ m.boundaries b h).0

      by : (t : Bool) → canonical_form (if t then bounding kept b.ring else b) ≡
          (if t then bounding kept b.ring else b)
      by true = ap (λ (c : Boundary). bounding kept c.ring) same
      by false = same

  faces-merged : (f : Face) (s : Side) → HasSide m f s → (Contains (both_ways it.chain) s → ⊥)
      → HasSide made (over kept ended f) s
  faces-merged f s has off =
      let k = beside f s m.boundaries (has_side-Contains s _ has) in
      let old =
      Contains-flat_map (λ (b : Boundary).
      sides_of b.ring) m.boundaries k.boundary s k.there k.has in
      elim (Contains-append_cases (both_ways it.chain) (sides_in new) s
      (Contains-permutation (all_sides m) (both_ways it.chain ++ sides_in new) s
      (sides-parted m kept ended valid two shared_chain it) old)) [
        | inl on ↦ absurd (off on)
        | inr there ↦
            let part = Contains-in_part (λ (b : Boundary). sides_of b.ring) new s there in
            let was =
            was-beside m kept ended valid two shared_chain it part.0.face s
            (record { boundary = part.0; there = part.1; face = refl; has = part.2 }) in
            let one : was.0 ≡ f =
            same_Some was.0 f
            (sym (one_ring m valid s was.1.boundary was.1.there was.1.has
            ∙ ap Some (sym was.1.face)) ∙ face-told m valid f s has) in
            subst (λ (g : Face). HasSide made g s) (was.2 ∙ ap (over kept ended) one)
            (has-side_canonical new others part.0 s part.1 part.2)
      ]

  has_merged : HasMerged m made kept ended it.chain it.k it.e it.more left
  has_merged = record {
    were = subst (λ (l : List Boundary × List Boundary).
        IsPermutation l.0 (bounding kept it.k ∷ bounding ended it.e ∷ l.1))
        (λ i. (singles m.boundaries i, singles left i))
        (two_out m kept ended valid two (λ b. b ∷ []) it.k it.e it.k_there it.e_there);
    are = subst (λ (l : List Boundary). IsPermutation l (canonical_order new))
        (map-append canonical_form (map (bounding kept) it.more) (map (handed_over kept ended) left)
        ∙ (λ i. map-map canonical_form (bounding kept) it.more i ++
        (map-map canonical_form (handed_over kept ended) left
        ∙ map-same (λ b. canonical_form (handed_over kept ended b))
        (handed_over kept ended) left shown-handed) i))
        (IsPermutation-canonical_order new);
    faces = faces-merged;
    in_kept = λ s h. Contains-has_side s _ (of_face m kept it.k s it.k_there (it.in_kept s h));
    in_ended =
        λ s h. Contains-has_side (opposite s) _
        (of_face m ended it.e (opposite s) it.e_there (it.in_ended s h));
  }

by-shared_chain : (m : Map) (valid : IsValid m) (kept ended : Face) (two : kept ≢ ended) (others : Map)
    (x : ChainInRings) → IsFound m valid kept ended x
    → IsMergedIn x m (with_boundaries (boundaries_by m kept ended x) others) kept ended
unfolding along-found around-found
by-shared_chain m valid kept ended two others x (IsFound.by_round k e k_there e_there is) =
    let it = around-found m kept ended k e k_there e_there is in
    (stays m kept ended k e, has_merged m valid kept ended two others (around k e) it)
by-shared_chain m valid kept ended two others x (IsFound.by_chain k i e j k_there e_there is) =
    let it = along-found m kept ended k e k_there e_there i j is in
    (stays m kept ended k e, has_merged m valid kept ended two others (along _ k i e j) it)

-- A merger that is not refused: two rings go, at most one comes, and the kept face has the ended
-- one's other rings.
pub merged-faces : (m : Map) (kept ended : Face) (x : ChainInRings) → IsValid m
    → first_refusal m (Merge kept ended) ≡ None → Contains (shared_chains m kept ended) x
    → IsMergedIn x m (after m (Merge kept ended)) kept ended
unfolding after
merged-faces m kept ended x valid none h =
    of-parcels m (λ k e. Contains (shared_chains m k e) x → IsMergedIn x m (merge m k e) k e)
    two-parcels kept ended (allowed m (Merge kept ended) none) h
  where
    two-parcels : (k e : ℕ) → IsAllowed m (Merge (Parcel k) (Parcel e))
        → Contains (shared_chains m (Parcel k) (Parcel e)) x
        → IsMergedIn x m (merge m (Parcel k) (Parcel e)) (Parcel k) (Parcel e)
    two-parcels k e free there =
        let can = can-merge m k e free in
        subst (λ (a : Map). IsMergedIn x m a (Parcel k) (Parcel e))
        (sym (merged-by m valid k e can x there))
        (by-shared_chain m valid (Parcel k) (Parcel e) (faces-differ m k e valid can)
        (rows m k e valid can) x (found m valid (Parcel k) (Parcel e) x there))
