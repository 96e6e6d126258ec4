-- Along sides that another ring comes back along: the points on the way have no third string, so they differ.
use Rattle.std.proofs.Common.{◌≡◌, ◌≢◌, ℕ, zero, suc, ◌+◌, ◌-◌, ◌<◌, ◌≤◌, ◌⊎◌, inl, inr, refl, sym, ap, subst, ◌∙◌, List, length, take, Bool, true, false, add-one, arith, Some}
use Rattle.std.proofs.lemmas.Bool.{and_parts, eqb-true, cases_lt}
use Rattle.std.proofs.lemmas.Option.{same_Some, slice_get-get_or}
use Rattle.std.specs.List.{Contains}
use Rattle.cad_rows.specs.declared.names.Face.{Face}
use Rattle.cad_rings.specs.Cycle.{Ring, Side, opposite, sides_of, corners_of, turned}
use Rattle.cad_rings.specs.Surgery.{corner, sides_of_chain}
use Rattle.cad_rings.proofs.CallerLemmas.{IsSameRing-turned, length-sides_of, length-turned}
use Rattle.cad_map.specs.Boundaries.{bounding}
use Rattle.cad_map.specs.Map.{Map, rings_of, face_sides, all_sides, all_corners}
use Rattle.cad_map.specs.Merger.{shared_sides, is_along}
use Rattle.cad_map.specs.Merger.ChainInRings.{along}
use Rattle.cad_map.specs.Walk.{first_side}
use Rattle.cad_map.specs.Chain.{are_distinct}
use Rattle.cad_map.specs.Steps.{next_side, steps, turns_back, runs_back, has_twin_in}
use Rattle.cad_map.specs.Valid.{IsValid}
use Rattle.std.proofs.lemmas.List.Sorted.{IsPermutation-sym, Contains-permutation}
use Rattle.cad_map.proofs.Lists.Elements.{Contains-flat_map}
use Rattle.cad_map.proofs.Lists.ElementFacts.{Contains-filter}
use Rattle.cad_map.proofs.Mergers.Merged.{shared-chain}
use Rattle.cad_map.proofs.SharedChains.FoundChains.{IsChainInRings, ring-among, along-found, along-passed}
use Rattle.cad_map.proofs.Boundaries.TwoFaces.{apart-valid}
use Rattle.cad_map.proofs.Boundaries.FacesBeside.{IsBeside, one_ring}
use Rattle.cad_map.proofs.SharedChains.NextSides.{ring-walked, next-in_all, comes_from, opposite-in_all}
use Rattle.cad_map.proofs.SharedChains.Steps.{points_along, step-last, steps-add, points_along-distinct, runs_back-first, runs_back-later, points_along-side, distinct-away}
use Rattle.cad_map.proofs.SharedChains.StepsOfRings.{IsWalked, walked-same, side-same, side-place, side-at, round-least, points_along-ring, corner-after, steps-there}
use Rattle.cad_map.proofs.SharedChains.TwoWays.{two-ways}
use Rattle.cad_map.proofs.Walks.AlongRing.{side_behind}

module _ (m : Map) (valid : IsValid m) where
  abbrev next : Side → Side
  next = next_side m

  joins : (s : Side) → (next s).0 ≡ s.1
  joins s = refl

  of_ring : (f : Face) (r : Ring) → Contains m.boundaries (bounding f r) → (s : Side) → Contains (sides_of r) s → Contains (all_sides m) s
  of_ring f r there s has = Contains-flat_map (λ b. sides_of b.ring) m.boundaries (bounding f r) s there has

  -- a side of a ring and the next one make a corner of the map
  corner-there : (f : Face) (r : Ring) → Contains m.boundaries (bounding f r) → (t : Side) → Contains (sides_of r) t → Contains (all_corners m) (corner t.0 t.1 (next t).1)
  corner-there f r there t has =
      let walked = ring-walked m valid (bounding f r) there in
      let found = corner-after next joins r t walked has in
      let c = found.0 in
      let on : next t ≡ side_behind c = ap next (sym found.2) ∙ walked.follows c found.1 in
      let is : c ≡ corner t.0 t.1 (next t).1 = λ i. corner (found.2 i).0 (found.2 i).1 (sym on i).1 in
      subst (Contains (all_corners m)) is (Contains-flat_map (λ b. corners_of b.ring) m.boundaries (bounding f r) c there found.1)

  -- Where the opposites follow one another backwards, all are of one ring.
  pub back-there : (f : Face) (e : Ring) → Contains m.boundaries (bounding f e) → (r : ℕ) (s : Side) → Contains (all_sides m) s → Contains (sides_of e) (opposite s)
      → runs_back next s r ≡ true → Contains (sides_of e) (opposite (steps next r s))
  back-there f e there zero s known has runs = has
  back-there f e there (suc r) s known has runs =
      let parts = and_parts (turns_back next s) (runs_back next (next s) r) runs in
      let on = next-in_all m valid s known in
      let turned_round : next (opposite (next s)) ≡ opposite s = λ i. (s.1, eqb-true (next (opposite (next s))).1 s.0 parts.0 i) in
      let has_next = comes_from m valid (bounding f e) there (opposite (next s)) (opposite-in_all m valid (next s) on) (subst (Contains (sides_of e)) (sym turned_round) has) in
      back-there f e there r (next s) on has_next parts.1

  module _ (kept ended : Face) (k e : Ring) (k_there : Contains m.boundaries (bounding kept k)) (e_there : Contains m.boundaries (bounding ended e))
      (s : Side) (s_there : Contains (sides_of k) s) (s_back : Contains (sides_of e) (opposite s)) where
    pub two_faces : kept ≢ ended
    two_faces same =
        let here : IsBeside kept s m.boundaries = record { boundary = bounding kept k; there = k_there; face = refl; has = s_there } in
        let back : IsBeside ended (opposite s) m.boundaries = record { boundary = bounding ended e; there = e_there; face = refl; has = s_back } in
        (apart-valid m valid).apart s kept ended here back same

    -- no side is in both rings
    not-both : (t : Side) → Contains (sides_of k) t → Contains (sides_of e) t → ⊥
    not-both t in_k in_e = two_faces (same_Some kept ended (sym (one_ring m valid t (bounding kept k) k_there in_k) ∙ one_ring m valid t (bounding ended e) e_there in_e))

    -- from the end of a side, where the other ring turns back, a side leads back or on
    ways-on : (t x : Side) → Contains (sides_of k) t → Contains (sides_of e) (opposite (next t)) → turns_back next t ≡ true → Contains (all_sides m) x → x.0 ≡ t.1
        → (x ≡ opposite t) ⊎ (x ≡ next t)
    ways-on t x in_k in_e turns there begins =
        let w = (next t).1 in
        let turned_round : (next (opposite (next t))).1 ≡ t.0 = eqb-true (next (opposite (next t))).1 t.0 turns in
        let forth = corner-there kept k k_there t in_k in
        let back : Contains (all_corners m) (corner w t.1 t.0) = subst (Contains (all_corners m)) (λ i. corner w t.1 (turned_round i)) (corner-there ended e e_there (opposite (next t)) in_e) in
        let apart : t.0 ≢ w = λ same. not-both t in_k (subst (Contains (sides_of e)) (λ i. (sym same i, t.1)) in_e) in
        elim (two-ways m valid t.0 t.1 w x.1 forth back apart (subst (λ (p : ℕ). Contains (all_sides m) (p, x.1)) begins there)) [
          | inl is ↦ inl (λ i. (begins i, is i))
          | inr is ↦ inr (λ i. (begins i, is i))
        ]

    -- n more sides that the other ring comes back along, and the side before them, which it doesn't
    module _ (n : ℕ) (runs : runs_back next s n ≡ true) (p : Side) (p_there : Contains (sides_of k) p) (off : ¬ Contains (sides_of e) (opposite p)) where
      k_walked : IsWalked next k
      k_walked = ring-walked m valid (bounding kept k) k_there

      on : (q : ℕ) → Contains (sides_of k) (steps next q s)
      on q = steps-there next joins k q s k_walked s_there

      pub back : (q : ℕ) → q ≤ n → Contains (sides_of e) (opposite (steps next q s))
      back q within =
          let parts : n ≡ q + (n - q) = omega arith in
          back-there ended e e_there q s (of_ring kept k k_there s s_there) s_back (runs_back-first next q (n - q) s (subst (λ (l : ℕ). runs_back next s l ≡ true) parts runs))

      turns : (q : ℕ) → q < n → turns_back next (steps next q s) ≡ true
      turns q within =
          let parts : n ≡ q + suc (n - q - 1) = omega arith in
          let t = steps next q s in
          (and_parts (turns_back next t) (runs_back next (next t) (n - q - 1)) (runs_back-later next q (suc (n - q - 1)) s (subst (λ (l : ℕ). runs_back next s l ≡ true) parts runs))).0

      -- the steps don't lead round, for the side before them is one of the ring too
      not-round : (t : Side) → Contains (sides_of k) t → (q : ℕ) → q ≤ n → steps next (suc q) t ≡ t → ⊥
      not-round t t_there q within round =
          let at_t = side-place k t t_there in
          let T = turned at_t.0 k in
          let few = round-least next joins T t (walked-same next k T (IsSameRing-turned at_t.0 k) k_walked) at_t.2 q round in
          let at_s = side-place k s s_there in
          let S = turned at_s.0 k in
          let p_in = side-same k S p (IsSameRing-turned at_s.0 k) p_there in
          let r = p_in.0 in
          let below = p_in.1 in
          let e1 = length-sides_of S in
          let e2 = length-turned at_s.0 k in
          let e3 = length-turned at_t.0 k in
          let at = side-at next joins S s (walked-same next k S (IsSameRing-turned at_s.0 k) k_walked) at_s.2 r (omega (arith, below, e1)) in
          let is : steps next r s ≡ p = same_Some (steps next r s) p (sym at ∙ slice_get-get_or (sides_of S) r p below ∙ ap Some p_in.2) in
          off (subst (λ (u : Side). Contains (sides_of e) (opposite u)) is (back r (omega (arith, below, e1, e2, e3, few, within))))

      module _ (apart : s.0 ≢ (steps next n s).1) where
        differ : (i j : ℕ) → i < j → j ≤ suc n → (steps next i s).0 ≢ (steps next j s).0
        differ i zero less within same = omega arith
        differ i (suc j) less within same = elim (cases_lt j n) [
          | inl inner ↦
              let x = steps next i s in
              let t = steps next j s in
              let last = step-last next j s in
              let begins : x.0 ≡ t.1 = same ∙ ap (λ (u : Side). u.0) last in
              let in_e = subst (λ (u : Side). Contains (sides_of e) (opposite u)) last (back (suc j) (omega arith)) in
              elim (ways-on t x (on j) in_e (turns j inner) (of_ring kept k k_there x (on i)) begins) [
                | inl is ↦ not-both x (on i) (subst (Contains (sides_of e)) (sym is) (back j (omega arith)))
                | inr is ↦
                    let parts : i + suc (j - i) ≡ suc j = omega arith in
                    not-round x (on i) (j - i) (omega arith) (steps-add next i (suc (j - i)) s ∙ ap (λ (l : ℕ). steps next l s) parts ∙ last ∙ sym is)
              ]
          | inr past ↦ let j_is : j ≡ n = omega arith in at_end i (omega arith) (same ∙ ap (λ (l : ℕ). (steps next (suc l) s).0) j_is ∙ ap (λ (u : Side). u.0) (step-last next n s))
        ]
          where
            at_end : (i : ℕ) → i ≤ n → (steps next i s).0 ≡ (steps next n s).1 → ⊥
            at_end zero within same = apart same
            at_end (suc i) within same =
                let t = steps next i s in
                let y = steps next n s in
                let last = step-last next i s in
                let begins : y.1 ≡ t.1 = sym same ∙ ap (λ (u : Side). u.0) last in
                let in_e = subst (λ (u : Side). Contains (sides_of e) (opposite u)) last (back (suc i) within) in
                let y_back = back n (omega arith) in
                elim (ways-on t (opposite y) (on i) in_e (turns i (omega arith)) (of_ring ended e e_there (opposite y) y_back) begins) [
                  | inl is ↦
                      let parts : i + suc (n - i - 1) ≡ n = omega arith in
                      not-round t (on i) (n - i - 1) (omega arith) (steps-add next i (suc (n - i - 1)) s ∙ ap (λ (l : ℕ). steps next l s) parts ∙ ap opposite is)
                  | inr is ↦ not-both (next t) (subst (Contains (sides_of k)) last (on (suc i))) (subst (Contains (sides_of e)) is y_back)
                ]

        -- So the points differ, if the last is another than the first.
        pub points-differ : are_distinct (points_along next s (suc n)) ≡ true
        points-differ = points_along-distinct next (suc n) s differ

-- ---- What comes before a chain

module _ (m : Map) (valid : IsValid m) (kept ended : Face) (k e : Ring) (k_there : Contains m.boundaries (bounding kept k)) (e_there : Contains m.boundaries (bounding ended e)) where
  abbrev n : ℕ
  n = length (shared_sides m kept ended)

  -- Before a chain of all shared sides there is a side that isn't shared.
  pub before-unshared : (i j : ℕ) → is_along n (turned i k) (turned j e) ≡ true → (s p : Side) → first_side (turned i k) ≡ Some s → kept ≢ ended
      → Contains (sides_of k) p → next_side m p ≡ s → are_distinct (points_along (next_side m) s n) ≡ true → has_twin_in m ended p ≡ false
  unfolding along-found
  before-unshared i j is s p begins two p_there leads distinct = by (has_twin_in m ended p) refl
    where
      K : Ring
      K = turned i k

      shared_chain : IsChainInRings m kept ended (along n k i e j)
      shared_chain = along-found m kept ended k e k_there e_there i j is

      in-chain : Contains (shared_sides m kept ended) p → Contains (sides_of_chain (take (n + 1) K)) p
      in-chain h = Contains-permutation (shared_sides m kept ended) shared_chain.chain p (IsPermutation-sym shared_chain.chain (shared_sides m kept ended) (shared-chain m kept ended valid two (along n k i e j) shared_chain)) h

      by : (b : Bool) → has_twin_in m ended p ≡ b → b ≡ false
      by true beyond =
          let shared = Contains-filter (has_twin_in m ended) (face_sides m kept) p
          (Contains-flat_map sides_of (rings_of m kept) k p (ring-among kept m.boundaries k k_there) p_there) beyond in
          let more = (along-passed n K (turned j e) is).more_in_kept in
          let walked = walked-same (next_side m) k K (IsSameRing-turned i k) (ring-walked m valid (bounding kept k) k_there) in
          let points : points_along (next_side m) s n ≡ take (n + 1) K = points_along-ring (next_side m) (λ t. refl) K s walked begins n more ∙ rw (add-one n) refl in
          let at = points_along-side (next_side m) (λ t. refl) n s p (subst (λ (l : List ℕ). Contains (sides_of_chain l) p) (sym points) (in-chain shared)) in
          absurd (distinct-away (next_side m) at.0 n s distinct at.1 (step-last (next_side m) at.0 s ∙ ap (next_side m) (sym at.2) ∙ leads))
      by false none = refl
