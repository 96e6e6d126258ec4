-- A merger round an island, read from the map after it to the one before.
use Rattle.std.proofs.Common.{◌≡◌, ◌≢◌, ℕ, true, List, [], ◌∷◌, map, reverse, length, ◌==◌, refl, ◌∙◌, subst}
use Rattle.std.specs.Prelude.{IsPermutation}
use Rattle.std.specs.List.{Contains}
use Rattle.std.proofs.lemmas.Bool.{and_parts}
use Rattle.std.proofs.lemmas.List.Sorted.{IsPermutation-sym, IsPermutation-trans, IsPermutation-map, IsPermutation-middle, Contains-permutation}
use Rattle.std.proofs.lemmas.Slice.Eq.{bytes_eq-Decides}
use Rattle.cad_rows.specs.declared.edits.Edit.TheVariants.{Merge}
use Rattle.cad_rows.specs.declared.names.Face.{Face}
use Rattle.cad_rings.specs.Cycle.{Ring, Side, sides_of, opposite, Corner, corner_back, corners_of, IsSameRing}
use Rattle.cad_rings.specs.Canonical.{least_rotation}
use Rattle.cad_rings.specs.Surgery.{both_ways}
use Rattle.cad_rings.proofs.CallerLemmas.{IsSameRing-sym, IsSameRing-from_least_rotation, corners_of-same, corners_of-reversed, sides_of-same}
use Rattle.cad_map.specs.Boundaries.{bounding}
use Rattle.cad_map.specs.Effects.{after}
use Rattle.cad_map.specs.Map.{Map}
use Rattle.cad_map.specs.Merger.{ChainInRings, shared_chains, is_around}
use Rattle.cad_map.specs.Merger.ChainInRings.{along, around}
use Rattle.cad_map.specs.Valid.{IsValid}
use Rattle.cad_map.proofs.CallerLemmas.{IsFound, found, around-back, map-Contains}
use Rattle.cad_laws.specs.Faces.{IsMergedIn}
use Rattle.cad_laws.specs.Parting.{IsMergedBy, HasIsland, HasCorner}
use Rattle.cad_laws.specs.Tried.{IsTried}
use Rattle.cad_laws.proofs.CallerLemmas.{merged-corners, merged-faces}
use Rattle.map_parts.specs.Islands.{IsTakenIsland}
use Rattle.map_parts.proofs.CycleRings.{map-map}
use Rattle.map_parts.proofs.MergedChain.{faces-apart}
use Rattle.map_parts.proofs.ReversedChain.{both-opposite, on-same}

-- an island is one whichever way its ring is read
pub island-reversed : (whole parted : Map) (r s : Ring) → IsPermutation (map corner_back (corners_of r)) (corners_of s)
    → IsPermutation (map opposite (sides_of r)) (sides_of s) → HasIsland whole parted r → HasIsland whole parted s
island-reversed whole parted r s corners sides it = record {
  along = λ c there. let d = turned c there in subst (HasCorner parted) d.2 (it.back d.0 d.1);
  back = λ c there. let d = turned c there in subst (λ (x : Corner). HasCorner parted (corner_back x)) d.2 (it.along d.0 d.1);
  stays = it.stays;
  joins = λ c there off. it.joins c there (λ on. off (on-same (sides_of r) (sides_of s) both c on));
  free = λ c there on. it.free c there (on-same (sides_of s) (sides_of r) (IsPermutation-sym (both_ways (sides_of r)) (both_ways (sides_of s)) both) c on);
}
  where
    both : IsPermutation (both_ways (sides_of r)) (both_ways (sides_of s))
    both = both-opposite (sides_of r) (sides_of s) sides

    turned : (c : Corner) → Contains (corners_of s) c → (d : Corner) × Contains (corners_of r) d × (corner_back d ≡ c)
    turned c there =
        map-Contains corner_back (corners_of r) c
        (Contains-permutation (corners_of s) (map corner_back (corners_of r)) c (IsPermutation-sym (map corner_back (corners_of r)) (corners_of s) corners) there)

-- the corners of two rings that are each other's reverse
corners-around : (n : ℕ) (k e : Ring) → is_around n k e ≡ true → IsPermutation (map corner_back (corners_of k)) (corners_of e)
corners-around n k e is =
    let parts = and_parts (n == length k) _ is in
    let same = IsSameRing-from_least_rotation (reverse k) e ((bytes_eq-Decides (least_rotation (reverse k)) (least_rotation e)).0 parts.1) in
    IsPermutation-trans (map corner_back (corners_of k)) (corners_of (reverse k)) (corners_of e) (corners_of-reversed k) (corners_of-same (reverse k) e same)

module _ (m a : Map) (valid : IsValid m) (kept ended : Face) (two : kept ≢ ended) (points : Ring) where
  -- what is said of an island, and of a chain nothing
  abbrev Told : ChainInRings → Type 0
  Told (along n k i e j) = Unit {0}
  Told (around k e) = IsSameRing points e → IsTakenIsland m a kept ended points k e

  told : (x : ChainInRings) → IsFound m valid kept ended x → IsMergedIn x m a kept ended → IsMergedBy x a m → Told x
  told x (IsFound.by_chain k i e j k_there e_there is) faces corners = tt
  told x (IsFound.by_round k e k_there e_there is) faces corners = λ same.
      let others = faces.0 in
      let law = faces.1 in
      let turned = IsSameRing-sym points e same in
      let back = around-back _ k e is in
      let sides : IsPermutation (map opposite (sides_of k)) (sides_of points) =
      IsPermutation-trans (map opposite (sides_of k)) (sides_of e) (sides_of points) back (sides_of-same e points turned) in
      let ends : IsPermutation (map corner_back (corners_of k)) (corners_of points) =
      IsPermutation-trans (map corner_back (corners_of k)) (corners_of e) (corners_of points) (corners-around _ k e is) (corners_of-same e points turned) in (
        others,
        record {
          corners = island-reversed a m k points ends sides corners;
          differ = two;
          left_face = refl;
          right_face = refl;
          left_sides = sides_of-same points e same;
          right_sides =
              IsPermutation-sym (sides_of k) (map opposite (sides_of points))
              (subst (λ (l : List Side). IsPermutation l (map opposite (sides_of points))) (map-map opposite opposite (sides_of k) ∙ twice (sides_of k))
              (IsPermutation-map opposite (map opposite (sides_of k)) (sides_of points) sides));
          were =
              IsPermutation-trans m.boundaries (bounding kept k ∷ bounding ended e ∷ others) (bounding ended e ∷ bounding kept k ∷ others) law.were
              (IsPermutation-middle (bounding kept k ∷ []) (bounding ended e) others);
          are = law.are;
        },
      )
    where
      twice : (xs : List Side) → map (λ s. opposite (opposite s)) xs ≡ xs
      twice [] = refl
      twice (s ∷ xs) = λ i. s ∷ twice xs i

-- ---- A merger that is tried

pub merged-island : (m : Map) (kept ended : Face) (points k e : Ring) → IsTried m (Merge kept ended) → Contains (shared_chains m kept ended) (around k e) → IsSameRing points e
    → IsTakenIsland m (after m (Merge kept ended)) kept ended points k e
merged-island m kept ended points k e tried there =
    told m (after m (Merge kept ended)) tried.valid kept ended (faces-apart m kept ended tried) points (around k e) (found m tried.valid kept ended (around k e) there)
    (merged-faces m kept ended (around k e) tried.valid tried.allowed there) (merged-corners m kept ended (around k e) tried.valid tried.allowed there)
