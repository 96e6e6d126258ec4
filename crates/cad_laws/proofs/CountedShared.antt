-- A merger takes out as many strings as sides are shared.
use Rattle.std.proofs.Common.{◌≡◌, ◌≢◌, ◌+◌, refl, sym, subst, List, [], ◌∷◌, ◌++◌, length, filter, not, None, arith}
use Rattle.std.proofs.lemmas.List.{length-append}
use Rattle.std.proofs.lemmas.List.Filters.{length-filter_both}
use Rattle.std.proofs.lemmas.List.Sorted.{length_permutation}
use Rattle.std.specs.Prelude.{flat_map}
use Rattle.std.specs.List.{Contains}
use Rattle.cad_rows.specs.declared.edits.Edit.TheVariants.{Merge}
use Rattle.cad_rows.specs.declared.names.Face.{Face}
use Rattle.cad_rows.specs.declared.names.Face.TheVariants.{Outside, Parcel}
use Rattle.cad_rows.specs.declared.rows.StringRow.{StringRow}
use Rattle.cad_rings.specs.Cycle.{Side, opposite}
use Rattle.cad_rings.specs.Surgery.{both_ways}
use Rattle.cad_map.specs.Boundaries.{sides_in}
use Rattle.cad_map.specs.Map.{Map, side_of, string_sides, all_sides}
use Rattle.cad_map.specs.Merger.{ChainInRings, is_shared, shared_sides}
use Rattle.cad_map.specs.Refusals.{first_refusal}
use Rattle.cad_map.specs.Valid.{IsValid}
use Rattle.cad_map.proofs.CallerLemmas.{allowed, can-merge, names-parcels, Contains-first, new, sides-parted, once-merged, IsChainInRings, shared_chain-found}
use Rattle.cad_laws.specs.Counts.{shared_strings}

-- two for each
twice : {X : Type 0} (f : X → Side) (xs : List X)
    → length (flat_map (λ x. f x ∷ opposite (f x) ∷ []) xs) ≡ length xs + length xs
twice f [] = refl
twice f (x ∷ xs) = let rest = twice f xs in omega (arith, rest)

module _ (m : Map) (valid : IsValid m) (kept ended : Face) (two : kept ≢ ended) (shared_chain : ChainInRings)
    (it : IsChainInRings m kept ended shared_chain) where
  -- All sides are the strings', twice as many as there are strings; without those of the chain,
  -- both ways, they are the sides of the strings that stay.
  shared-many : length (shared_strings m kept ended) ≡ length (shared_sides m kept ended)
  shared-many =
      let fresh = new m kept ended valid two shared_chain it in
      let stays : List StringRow = filter (λ s. not (is_shared m kept ended s)) m.strings in
      let all = length_permutation (string_sides m) (all_sides m) valid.sound.v5.once in
      let parted = length_permutation (all_sides m) (both_ways it.chain ++ sides_in fresh)
      (sides-parted m kept ended valid two shared_chain it) in
      let joined = length-append (both_ways it.chain) (sides_in fresh) in
      let left = length_permutation (flat_map (λ s. side_of s ∷ opposite (side_of s) ∷ []) stays)
      (sides_in fresh) (once-merged m kept ended valid two shared_chain it) in
      let strings = twice side_of m.strings in
      let chain = twice (λ (s : Side). s) it.chain in
      let staying = twice side_of stays in
      let parts = length-filter_both (is_shared m kept ended)
      (λ s. not (is_shared m kept ended s)) (λ s. refl) m.strings in
      let long = it.long in
      omega (arith, all, parted, joined, left, strings, chain, staying, parts, long)

pub shared-counted : (m : Map) (kept ended : Face) → IsValid m
    → first_refusal m (Merge kept ended) ≡ None
    → length (shared_strings m kept ended) ≡ length (shared_sides m kept ended)
shared-counted m Outside e v none =
    let names = names-parcels m Outside e (allowed m (Merge Outside e) none) in
    let same = names.kept_is in absurd (let no : Outside ≡ Parcel names.first = same in cc)
shared-counted m (Parcel k) Outside v none =
    let names = names-parcels m (Parcel k) Outside (allowed m (Merge (Parcel k) Outside) none) in
    let same = names.ended_is in absurd (let no : Outside ≡ Parcel names.second = same in cc)
shared-counted m (Parcel k) (Parcel n) v none =
    let can = can-merge m k n (allowed m (Merge (Parcel k) (Parcel n)) none) in
    shared-many m v (Parcel k) (Parcel n)
    (λ same. can.two (let is : k ≡ n = cc in is)) can.shared_chain
    (shared_chain-found m (Parcel k) (Parcel n) can.shared_chain
    (subst (λ (l : List ChainInRings). Contains l can.shared_chain) (sym can.found)
    (Contains-first can.shared_chain can.others)))
