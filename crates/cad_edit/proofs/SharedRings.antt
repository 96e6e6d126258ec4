-- The two rings of a shared chain are found by their sides, and the merger is along it.
use Rattle.std.proofs.Common.{◌≡◌, ◌≢◌, ℕ, ◌+◌, ◌<◌, sym, ap, subst, ◌∙◌, [], ◌∷◌, ◌++◌, length, take, drop, map, filter, reverse, not, true, Some}
use Rattle.std.proofs.lemmas.Option.{same_Some}
use Rattle.std.specs.List.{Contains}
use Rattle.std.proofs.lemmas.List.Sorted.{Contains-permutation}
use Rattle.cad_rows.specs.declared.names.Face.{Face}
use Rattle.cad_rings.specs.Cycle.{Ring, Side, has_side, opposite, sides_of, turned}
use Rattle.cad_rings.specs.Surgery.{joined}
use Rattle.cad_rings.proofs.CallerLemmas.{IsSameRing-turned, length-turned}
use Rattle.cad_map.specs.declared.shared_chain.SharedChain.{SharedChain}
use Rattle.cad_map.specs.declared.shared_chain.SharedChain.TheVariants.{Along, Around}
use Rattle.cad_map.specs.Boundaries.{bounding}
use Rattle.cad_map.specs.Map.{Map, all_sides}
use Rattle.cad_map.specs.Changes.{merge_at}
use Rattle.cad_map.specs.Division.{place_of, ring_with}
use Rattle.cad_map.specs.Merger.{ChainInRings, shared_chains, is_taken_out, handed_over, boundaries_merged}
use Rattle.cad_map.specs.Merger.ChainInRings.{along, around}
use Rattle.cad_map.specs.SharedChains.{IsChainOf, IsSharedChain}
use Rattle.cad_map.specs.Valid.{IsValid}
use Rattle.cad_map.specs.Walk.{first_side}
use Rattle.cad_map.proofs.CallerLemmas.{only-in, Contains-map, Contains-has_side, sides-once, IsFound, found, two-of_shared_chain, turned-walked, same-turned, merged-any, common-along, around-back, has_first, side-same, once-from_pairs}
use Rattle.cad_rings.proofs.CallerLemmas.{IsSameRing-sym}
use Rattle.cad_edit.specs.Merging.{kept_side, ended_side, HaveAlong, CanBeJoined, rings_joined}
use Rattle.cad_edit.proofs.CutRing.{place-begins}

-- ---- The rings of a shared chain

-- what is needed of them, and what the merger is
pub record AreItsRings (m : Map) (kept ended : Face) (chain : SharedChain) : Type 0 where
  pub has_kept : has_side (kept_side chain) (sides_of (ring_with (kept_side chain) m.boundaries)) ≡ true
  pub has_ended : has_side (ended_side chain) (sides_of (ring_with (ended_side chain) m.boundaries)) ≡ true
  pub can : CanBeJoined chain (ring_with (kept_side chain) m.boundaries) (ring_with (ended_side chain) m.boundaries)
  pub merged :
      rings_joined kept (ring_with (kept_side chain) m.boundaries) (ring_with (ended_side chain) m.boundaries) chain
      ++ map (handed_over kept ended) (filter (λ b. not (is_taken_out kept ended (ring_with (kept_side chain) m.boundaries) (ring_with (ended_side chain) m.boundaries) b)) m.boundaries)
      ≡ merge_at m kept ended (shared_chains m kept ended)

module _ (m : Map) (valid : IsValid m) (kept ended : Face) where
  only : (f : Face) (r : Ring) (s : Side) → Contains m.boundaries (bounding f r) → Contains (sides_of r) s → ring_with s m.boundaries ≡ r
  only f r s there has = (only-in s m.boundaries (bounding f r) there has (once-from_pairs (all_sides m) (sides-once m valid) s)).ring

  -- the two rings k and e, and what they give
  told : (chain : SharedChain) (k e : Ring) → Contains m.boundaries (bounding kept k) → Contains m.boundaries (bounding ended e)
      → Contains (sides_of k) (kept_side chain) → Contains (sides_of e) (ended_side chain) → CanBeJoined chain k e
      → rings_joined kept k e chain ++ map (handed_over kept ended) (filter (λ b. not (is_taken_out kept ended k e b)) m.boundaries) ≡ merge_at m kept ended (shared_chains m kept ended)
      → AreItsRings m kept ended chain
  told chain k e k_there e_there k_has e_has can is =
      let ks : k ≡ ring_with (kept_side chain) m.boundaries = sym (only kept k (kept_side chain) k_there k_has) in
      let es : e ≡ ring_with (ended_side chain) m.boundaries = sym (only ended e (ended_side chain) e_there e_has) in
      record {
        has_kept = subst (λ (r : Ring). has_side (kept_side chain) (sides_of r) ≡ true) ks (Contains-has_side (kept_side chain) (sides_of k) k_has);
        has_ended = subst (λ (r : Ring). has_side (ended_side chain) (sides_of r) ≡ true) es (Contains-has_side (ended_side chain) (sides_of e) e_has);
        can = subst (λ (p : Ring × Ring). CanBeJoined chain p.0 p.1) (λ i. (ks i, es i)) can;
        merged = subst (λ (p : Ring × Ring). rings_joined kept p.0 p.1 chain
            ++ map (handed_over kept ended) (filter (λ b. not (is_taken_out kept ended p.0 p.1 b)) m.boundaries) ≡ merge_at m kept ended (shared_chains m kept ended)) (λ i. (ks i, es i)) is;
      }

  -- a ring that is written from a side on has it
  side-of : (f : Face) (r : Ring) (i : ℕ) (s : Side) → kept ≢ ended → Contains m.boundaries (bounding f r) → first_side (turned i r) ≡ Some s → Contains (sides_of r) s
  side-of f r i s two there begins =
      let first = has_first (turned i r) (turned-walked m valid kept ended two f r i there).two in
      subst (Contains (sides_of r)) (same_Some first.0 s (sym first.1 ∙ begins)) (side-same (turned i r) r first.0 (IsSameRing-sym r (turned i r) (IsSameRing-turned i r)) first.2)

  -- and is written the same from the place of that side on
  same-place : (f : Face) (r : Ring) (i : ℕ) (s : Side) → kept ≢ ended → Contains m.boundaries (bounding f r) → first_side (turned i r) ≡ Some s → turned i r ≡ turned (place_of s r) r
  same-place f r i s two there begins =
      let j = place_of s r in
      let has = Contains-has_side s (sides_of r) (side-of f r i s two there begins) in
      same-turned m valid kept ended two (turned i r) (turned j r) s (turned-walked m valid kept ended two f r i there) (turned-walked m valid kept ended two f r j there) begins (place-begins s r has)
      (length-turned i r ∙ sym (length-turned j r))

  by : (chain : SharedChain) (x : ChainInRings) → kept ≢ ended → IsFound m valid kept ended x → Contains (shared_chains m kept ended) x → IsChainOf x chain → AreItsRings m kept ended chain
  by (Along first last sides) x two (IsFound.by_round k e k_there e_there is) h it = absurd it
  by (Around side) x two (IsFound.by_chain k i e j k_there e_there is) h it = absurd it
  by (Around side) x two (IsFound.by_round k e k_there e_there is) h it =
      let back = Contains-permutation (map opposite (sides_of k)) (sides_of e) (opposite side) (around-back _ k e is) (Contains-map opposite (sides_of k) side it) in
      told (Around side) k e k_there e_there it back tt (sym (merged-any m valid kept ended two (around k e) h))
  by (Along first last sides) x two (IsFound.by_chain k i e j k_there e_there is) h it =
      let back = opposite last in
      let n = sides in
      let first_in = side-of kept k i first two k_there it.begins in
      let back_in = side-of ended e j back two e_there it.ends in
      let K = same-place kept k i first two k_there it.begins in
      let E = same-place ended e j back two e_there it.ends in
      let common = common-along _ i j k e is in
      let count = it.as_many in
      let can : HaveAlong first back sides k e = record {
        has_first = Contains-has_side first (sides_of k) first_in;
        has_back = Contains-has_side back (sides_of e) back_in;
        common = record {
          some = subst (λ (l : ℕ). 0 < l) (sym count) common.some;
          more_in_kept = subst (λ (l : ℕ). l < length k) (sym count) common.more_in_kept;
          more_in_ended = subst (λ (l : ℕ). l < length e) (sym count) common.more_in_ended;
          common = (λ p. take (count p + 1) (sym K p)) ∙ common.common ∙ (λ p. reverse (take (sym count p + 1) (E p)));
        };
      } in
      let rings : joined (place_of first k) (place_of back e) sides k e ≡ joined i j _ k e = λ p. drop (count p) (sym K p) ++ drop (count p) (sym E p) in
      told (Along first last sides) k e k_there e_there first_in back_in can
      (ap (λ (r : Ring). boundaries_merged m kept ended k e (r ∷ [])) rings ∙ sym (merged-any m valid kept ended two (along _ k i e j) h))

  pub its-rings : (chain : SharedChain) → IsSharedChain m kept ended chain → AreItsRings m kept ended chain
  its-rings chain shared = by chain shared.shared_chain (two-of_shared_chain m valid kept ended shared.shared_chain shared.there) (found m valid kept ended shared.shared_chain shared.there) shared.there shared.is
