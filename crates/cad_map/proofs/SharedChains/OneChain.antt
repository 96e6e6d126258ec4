-- The shared chain of two faces of a valid map is the only one.
-- Two shared chains both have the shared sides, so they are one chain; its first side then tells
-- from which place on each of the two rings is written.
use Rattle.std.proofs.Common.{◌≡◌, ◌≢◌, ℕ, zero, suc, add-one, ◌+◌, ◌<◌, ◌≤◌, ◌⊎◌, inl, inr, refl, sym, ap, subst, ◌∙◌, List, [], ◌∷◌, ◌++◌, length, take, drop, reverse, true, true≢false, not, arith, Some}
use Rattle.std.proofs.lemmas.Bool.{and_parts, eqb-true}
use Rattle.std.proofs.lemmas.Cmp.{nat_eq_equiv}
use Rattle.std.proofs.lemmas.List.{reverse-reverse, take_all}
use Rattle.std.proofs.lemmas.List.Elements.{Contains-append_cases}
use Rattle.std.proofs.lemmas.List.Sorted.{IsPermutation-sym, Contains-permutation}
use Rattle.std.specs.Prelude.{◌==◌, flat_map, if◌then◌else◌}
use Rattle.std.specs.List.{Contains, list_any}
use Rattle.cad_rows.specs.declared.names.Face.{Face}
use Rattle.cad_rings.specs.Cycle.{Ring, Side, opposite, sides_of, turned}
use Rattle.cad_rings.specs.Surgery.{sides_of_chain, joined}
use Rattle.cad_rings.proofs.CallerLemmas.{IsSameRing-turned, length-turned}
use Rattle.cad_map.specs.declared.boundary.Boundary.{Boundary}
use Rattle.cad_map.specs.Boundaries.{bounding}
use Rattle.cad_map.specs.Map.{Map, rings_of, all_sides}
use Rattle.cad_map.specs.Chain.{are_distinct}
use Rattle.cad_map.specs.Valid.{IsValid}
use Rattle.cad_map.specs.Walk.{first_side}
use Rattle.cad_map.specs.Changes.{merge_at}
use Rattle.cad_map.specs.Merger.{ChainInRings, shared_sides, is_along, is_around, places, shared_chains, shared_chains_of_rings, boundaries_by, boundaries_merged}
use Rattle.cad_map.specs.Merger.ChainInRings.{along, around}
use Rattle.cad_map.specs.Steps.{next_side}
use Rattle.cad_map.proofs.Lists.Elements.{Contains-in_part, Contains-cases, Contains-first, Contains-later, All-at_each, list_any-Contains}
use Rattle.cad_map.proofs.Boundaries.FacesBeside.{sides-once}
use Rattle.cad_map.proofs.Walks.AlongRing.{once-from_pairs}
use Rattle.cad_map.proofs.SharedChains.FoundChains.{IsChainInRings, one_if, ring-there, along-found, around-found, along-passed, shared_chain-found}
use Rattle.cad_map.proofs.SharedChains.SharedPoints.{two_faces}
use Rattle.cad_map.proofs.Mergers.Merged.{shared-chain}
use Rattle.cad_map.proofs.SharedChains.NextSides.{one_boundary, ring-walked}
use Rattle.cad_map.proofs.SharedChains.StepsOfRings.{IsWalked, walked-same, has_first, points_along-ring}

-- ---- Chains whose points differ

-- a side of a chain ends at a later point
end-later : (x : ℕ) (xs : List ℕ) (s : Side) → Contains (sides_of_chain (x ∷ xs)) s → Contains xs s.1
end-later x [] s h = let low = h.1 in absurd (omega arith)
end-later x (y ∷ xs) s h = elim (Contains-cases (x, y) (sides_of_chain (y ∷ xs)) s h) [
  | inl is ↦ subst (λ (t : Side). Contains (y ∷ xs) t.1) is (Contains-first y xs)
  | inr on ↦ Contains-later y xs s.1 (end-later y xs s on)
]

-- it is the first, or another leads to it
first-or_after : (x y : ℕ) (xs : List ℕ) (s : Side) → Contains (sides_of_chain (x ∷ y ∷ xs)) s → ((x, y) ≡ s) ⊎ ((t : Side) × Contains (sides_of_chain (x ∷ y ∷ xs)) t × (t.1 ≡ s.0))
first-or_after x y [] s h = elim (Contains-cases (x, y) [] s h) [ inl is ↦ inl is | inr none ↦ let low = none.1 in absurd (omega arith) ]
first-or_after x y (z ∷ xs) s h = elim (Contains-cases (x, y) (sides_of_chain (y ∷ z ∷ xs)) s h) [
  | inl is ↦ inl is
  | inr on ↦ elim (first-or_after y z xs s on) [
    | inl is ↦ inr ((x, y), Contains-first (x, y) (sides_of_chain (y ∷ z ∷ xs)), ap (λ (t : Side). t.0) is)
    | inr some ↦ inr (some.0, Contains-later (x, y) (sides_of_chain (y ∷ z ∷ xs)) some.0 some.1, some.2)
  ]
]

-- no side leads to the first point
none-to_first : (x : ℕ) (xs : List ℕ) → are_distinct (x ∷ xs) ≡ true → (s : Side) → Contains (sides_of_chain (x ∷ xs)) s → s.1 ≡ x → ⊥
none-to_first x xs distinct s h is =
    let other = (and_parts (not (list_any (λ y. x == y) xs)) (are_distinct xs) distinct).0 in
    let some = list_any-Contains (λ y. x == y) xs s.1 (end-later x xs s h) (ap (λ (y : ℕ). x == y) is ∙ nat_eq_equiv.refl x) in
    true≢false (sym other ∙ ap not some)

-- of two chains with the same sides, each with points that differ, the first sides are one
same-first : (n : ℕ) (K L : Ring) (s t : Side) → first_side K ≡ Some s → first_side L ≡ Some t → 0 < n → n < length K → n < length L
    → are_distinct (take (suc n) K) ≡ true → are_distinct (take (suc n) L) ≡ true
    → ((u : Side) → Contains (sides_of_chain (take (suc n) K)) u → Contains (sides_of_chain (take (suc n) L)) u)
    → ((u : Side) → Contains (sides_of_chain (take (suc n) L)) u → Contains (sides_of_chain (take (suc n) K)) u) → s ≡ t
same-first zero K L s t k l some more_k more_l dk dl into back = absurd (omega (arith, some))
same-first (suc n) [] L s t k l some more_k more_l dk dl into back = absurd (omega (arith, more_k))
same-first (suc n) (a ∷ []) L s t k l some more_k more_l dk dl into back = absurd (omega (arith, more_k))
same-first (suc n) (a ∷ b ∷ ks) [] s t k l some more_k more_l dk dl into back = absurd (omega (arith, more_l))
same-first (suc n) (a ∷ b ∷ ks) (c ∷ []) s t k l some more_k more_l dk dl into back = absurd (omega (arith, more_l))
same-first (suc n) (a ∷ b ∷ ks) (c ∷ d ∷ ls) s t k l some more_k more_l dk dl into back =
    let one : (a, b) ≡ s = cc in
    let two : (c, d) ≡ t = cc in
    let first = into (a, b) (Contains-first (a, b) (sides_of_chain (b ∷ take n ks))) in
    elim (first-or_after c d (take n ls) (a, b) first) [
      | inl is ↦ sym one ∙ sym is ∙ two
      | inr before ↦ absurd (none-to_first a (b ∷ take n ks) dk before.0 (back before.0 before.1) before.2)
    ]

module _ (m : Map) (valid : IsValid m) (kept ended : Face) where
  abbrev n : ℕ
  n = length (shared_sides m kept ended)

  abbrev next : Side → Side
  next = next_side m

  -- how a shared chain is found
  pub data IsFound : ChainInRings → Type 0 where
    by_round : (k e : Ring) → Contains m.boundaries (bounding kept k) → Contains m.boundaries (bounding ended e) → is_around n k e ≡ true → IsFound (around k e)
    by_chain : (k : Ring) (i : ℕ) (e : Ring) (j : ℕ) → Contains m.boundaries (bounding kept k) → Contains m.boundaries (bounding ended e) → is_along n (turned i k) (turned j e) ≡ true → IsFound (along n k i e j)

  pub found : (shared_chain : ChainInRings) → Contains (shared_chains m kept ended) shared_chain → IsFound shared_chain
  found shared_chain h =
      let k = Contains-in_part (λ k. flat_map (λ e. shared_chains_of_rings n k e) (rings_of m ended)) (rings_of m kept) shared_chain h in
      let e = Contains-in_part (λ e. shared_chains_of_rings n k.0 e) (rings_of m ended) shared_chain k.2 in
      let k_there = ring-there m kept k.0 k.1 in
      let e_there = ring-there m ended e.0 e.1 in
      elim (Contains-append_cases (if is_around n k.0 e.0 then around k.0 e.0 ∷ [] else []) _ shared_chain e.2) [
        | inl here ↦ let one = one_if (is_around n k.0 e.0) (around k.0 e.0) shared_chain here in subst IsFound one.1 (by_round k.0 e.0 k_there e_there one.0)
        | inr there ↦
            let i = Contains-in_part (λ i. flat_map (λ j. if is_along n (turned i k.0) (turned j e.0) then along n k.0 i e.0 j ∷ [] else []) (places 0 e.0)) (places 0 k.0) shared_chain there in
            let j = Contains-in_part (λ j. if is_along n (turned i.0 k.0) (turned j e.0) then along n k.0 i.0 e.0 j ∷ [] else []) (places 0 e.0) shared_chain i.2 in
            let one = one_if (is_along n (turned i.0 k.0) (turned j.0 e.0)) (along n k.0 i.0 e.0 j.0) shared_chain j.2 in
            subst IsFound one.1 (by_chain k.0 i.0 e.0 j.0 k_there e_there one.0)
      ]

  round-some : (k e : Ring) → Contains m.boundaries (bounding kept k) → is_around n k e ≡ true → (0 < n) × (n ≡ length k)
  round-some k e there is =
      let all = eqb-true n (length k) (and_parts (n == length k) _ is).0 in
      let three = All-at_each (λ b. 3 ≤ length b.ring) m.boundaries (bounding kept k) valid.sound.v5.three there in
      (omega (arith, all, three), all)

  some-side : (x : ChainInRings) (a : IsChainInRings m kept ended x) → 0 < n → (s : Side) × Contains a.chain s
  some-side x a some = by a.chain a.long
    where
      by : (l : List Side) → length l ≡ n → (s : Side) × Contains l s
      by [] none = absurd (omega (arith, some, none))
      by (s ∷ l) long = (s, Contains-first s l)

  -- the two faces of a shared chain differ
  pub two-of_shared_chain : (x : ChainInRings) → Contains (shared_chains m kept ended) x → kept ≢ ended
  two-of_shared_chain x h =
      let a = shared_chain-found m kept ended x h in
      let s = some-side x a (some (found x h)) in
      two_faces m valid kept ended a.k a.e a.k_there a.e_there s.0 (a.in_kept s.0 s.1) (a.in_ended s.0 s.1)
    where
      some : {y : ChainInRings} → IsFound y → 0 < n
      some (by_round k e k_there e_there is) = (round-some k e k_there is).0
      some (by_chain k i e j k_there e_there is) = (along-passed n (turned i k) (turned j e) is).some

  module _ (two : kept ≢ ended) where
    once : (s : Side) (b c : Boundary) → Contains m.boundaries b → Contains m.boundaries c → Contains (sides_of b.ring) s → Contains (sides_of c.ring) s → b ≡ c
    once s b c h k has too = one_boundary s m.boundaries b c (once-from_pairs (all_sides m) (sides-once m valid) s) h k has too

    -- ---- Two shared chains have the same sides

    module _ (x y : ChainInRings) (a : IsChainInRings m kept ended x) (b : IsChainInRings m kept ended y) where
      into : (s : Side) → Contains a.chain s → Contains b.chain s
      into s h =
          Contains-permutation (shared_sides m kept ended) b.chain s (IsPermutation-sym b.chain (shared_sides m kept ended) (shared-chain m kept ended valid two y b))
          (Contains-permutation a.chain (shared_sides m kept ended) s (shared-chain m kept ended valid two x a) h)

      same-kept : 0 < n → a.k ≡ b.k
      same-kept some =
          let s = some-side x a some in
          ap (λ (c : Boundary). c.ring) (once s.0 (bounding kept a.k) (bounding kept b.k) a.k_there b.k_there (a.in_kept s.0 s.1) (b.in_kept s.0 (into s.0 s.1)))

      same-ended : 0 < n → a.e ≡ b.e
      same-ended some =
          let s = some-side x a some in
          ap (λ (c : Boundary). c.ring) (once (opposite s.0) (bounding ended a.e) (bounding ended b.e) a.e_there b.e_there (a.in_ended s.0 s.1) (b.in_ended s.0 (into s.0 s.1)))

    -- ---- Of one ring, the chain's first side tells how it is written

    pub turned-walked : (f : Face) (ring : Ring) (i : ℕ) → Contains m.boundaries (bounding f ring) → IsWalked next (turned i ring)
    turned-walked f ring i there = walked-same next ring (turned i ring) (IsSameRing-turned i ring) (ring-walked m valid (bounding f ring) there)

    pub same-turned : (K L : Ring) (s : Side) → IsWalked next K → IsWalked next L → first_side K ≡ Some s → first_side L ≡ Some s → length K ≡ length L → K ≡ L
    same-turned K L s kw lw k l long = by (length K) refl
      where
        by : (q : ℕ) → length K ≡ q → K ≡ L
        by zero is = let some = kw.two in absurd (omega (arith, is, some))
        by (suc q) is =
            sym (take_all (suc q) K (omega (arith, is))) ∙ sym (points_along-ring next (λ t. refl) K s kw k q (omega (arith, is)))
            ∙ points_along-ring next (λ t. refl) L s lw l q (omega (arith, is, long)) ∙ take_all (suc q) L (omega (arith, is, long))

    -- rings that begin with the same points begin with the same side
    same-begin : (q : ℕ) (E F : Ring) (s t : Side) → 0 < q → q < length E → q < length F → take (suc q) E ≡ take (suc q) F → first_side E ≡ Some s → first_side F ≡ Some t → s ≡ t
    same-begin zero E F s t some e f same is too = absurd (omega (arith, some))
    same-begin (suc q) [] F s t some e f same is too = absurd (omega (arith, e))
    same-begin (suc q) (a ∷ []) F s t some e f same is too = absurd (omega (arith, e))
    same-begin (suc q) (a ∷ b ∷ E) [] s t some e f same is too = absurd (omega (arith, f))
    same-begin (suc q) (a ∷ b ∷ E) (c ∷ []) s t some e f same is too = absurd (omega (arith, f))
    same-begin (suc q) (a ∷ b ∷ E) (c ∷ d ∷ F) s t some e f same is too =
        let one : (a, b) ≡ s = cc in
        let other : (c, d) ≡ t = cc in
        let first : a ≡ c = cc in
        let second : b ≡ d = cc in
        sym one ∙ (λ i. (first i, second i)) ∙ other

    -- ---- One shared chain

    one-chain : (k : Ring) (i : ℕ) (e : Ring) (j i' j' : ℕ) → Contains m.boundaries (bounding kept k) → Contains m.boundaries (bounding ended e)
        → is_along n (turned i k) (turned j e) ≡ true → is_along n (turned i' k) (turned j' e) ≡ true → joined i j n k e ≡ joined i' j' n k e
    unfolding along-found
    one-chain k i e j i' j' k_there e_there is too =
        let x = along-found m kept ended k e k_there e_there i j is in
        let y = along-found m kept ended k e k_there e_there i' j' too in
        let a = along-passed n (turned i k) (turned j e) is in
        let b = along-passed n (turned i' k) (turned j' e) too in
        let K = turned i k in
        let L = turned i' k in
        let E = turned j e in
        let F = turned j' e in
        let kw = turned-walked kept k i k_there in
        let lw = turned-walked kept k i' k_there in
        let ew = turned-walked ended e j e_there in
        let fw = turned-walked ended e j' e_there in
        let s = has_first K kw.two in
        let t = has_first L lw.two in
        let u = has_first E ew.two in
        let v = has_first F fw.two in
        let e1 : (z : Side) → Contains (sides_of_chain (take (n + 1) K)) z → Contains (sides_of_chain (take (n + 1) L)) z = into (along n k i e j) (along n k i' e j') x y in
        let e2 : (z : Side) → Contains (sides_of_chain (take (n + 1) L)) z → Contains (sides_of_chain (take (n + 1) K)) z = into (along n k i' e j') (along n k i e j) y x in
        let first : s.0 ≡ t.0 = same-first n K L s.0 t.0 s.1 t.1 a.some a.more_in_kept b.more_in_kept a.distinct b.distinct (rw (add-one n) at e1) (rw (add-one n) at e2) in
        let kept_same : K ≡ L = same-turned K L s.0 kw lw s.1 (t.1 ∙ ap Some (sym first)) (length-turned i k ∙ sym (length-turned i' k)) in
        let begin : take (suc n) E ≡ take (suc n) F =
        sym (reverse-reverse (take (suc n) E)) ∙ ap reverse (sym a.common ∙ ap (take (suc n)) kept_same ∙ b.common) ∙ reverse-reverse (take (suc n) F) in
        let second : u.0 ≡ v.0 = same-begin n E F u.0 v.0 a.some a.more_in_ended b.more_in_ended begin u.1 v.1 in
        let ended_same : E ≡ F = same-turned E F u.0 ew fw u.1 (v.1 ∙ ap Some (sym second)) (length-turned j e ∙ sym (length-turned j' e)) in
        λ p. drop n (kept_same p) ++ drop n (ended_same p)

    same : (x y : ChainInRings) → IsFound x → IsFound y → boundaries_by m kept ended x ≡ boundaries_by m kept ended y
    unfolding along-found around-found
    same x y (by_round k e k_there e_there is) (by_round k' e' k_there' e_there' too) =
        let a = around-found m kept ended k e k_there e_there is in
        let b = around-found m kept ended k' e' k_there' e_there' too in
        let some = (round-some k e k_there is).0 in
        let ks : k ≡ k' = same-kept (around k e) (around k' e') a b some in
        let es : e ≡ e' = same-ended (around k e) (around k' e') a b some in
        λ p. boundaries_merged m kept ended (ks p) (es p) []
    same x y (by_round k e k_there e_there is) (by_chain k' i e' j k_there' e_there' too) =
        let a = around-found m kept ended k e k_there e_there is in
        let b = along-found m kept ended k' e' k_there' e_there' i j too in
        let some = round-some k e k_there is in
        let ks : k ≡ k' = same-kept (around k e) (along n k' i e' j) a b some.0 in
        let more = (along-passed n (turned i k') (turned j e') too).more_in_kept in
        let long = length-turned i k' in
        let all = some.1 in
        let lengths = ap length ks in
        absurd (omega (arith, more, long, all, lengths))
    same x y (by_chain k i e j k_there e_there is) (by_round k' e' k_there' e_there' too) =
        let a = along-found m kept ended k e k_there e_there i j is in
        let b = around-found m kept ended k' e' k_there' e_there' too in
        let some = round-some k' e' k_there' too in
        let ks : k ≡ k' = same-kept (along n k i e j) (around k' e') a b some.0 in
        let more = (along-passed n (turned i k) (turned j e) is).more_in_kept in
        let long = length-turned i k in
        let all = some.1 in
        let lengths = ap length ks in
        absurd (omega (arith, more, long, all, lengths))
    same x y (by_chain k i e j k_there e_there is) (by_chain k' i' e' j' k_there' e_there' too) =
        let a = along-found m kept ended k e k_there e_there i j is in
        let b = along-found m kept ended k' e' k_there' e_there' i' j' too in
        let some = (along-passed n (turned i k) (turned j e) is).some in
        let ks : k ≡ k' = same-kept (along n k i e j) (along n k' i' e' j') a b some in
        let es : e ≡ e' = same-ended (along n k i e j) (along n k' i' e' j') a b some in
        let too' : is_along n (turned i' k) (turned j' e) ≡ true = subst (λ (t : Ring × Ring). is_along n (turned i' t.0) (turned j' t.1) ≡ true) (λ p. (sym ks p, sym es p)) too in
        let rings : joined i j n k e ≡ joined i' j' n k e = one-chain k i e j i' j' k_there e_there is too' in
        ap (λ (r : Ring). boundaries_merged m kept ended k e (r ∷ [])) rings ∙ (λ p. boundaries_merged m kept ended (ks p) (es p) (joined i' j' n (ks p) (es p) ∷ []))

    pub one-shared_chain : (x y : ChainInRings) → Contains (shared_chains m kept ended) x → Contains (shared_chains m kept ended) y → boundaries_by m kept ended x ≡ boundaries_by m kept ended y
    one-shared_chain x y h k = same x y (found x h) (found y k)

    -- So the merger is by any shared chain that is found.
    pub merged-any : (x : ChainInRings) → Contains (shared_chains m kept ended) x → merge_at m kept ended (shared_chains m kept ended) ≡ boundaries_by m kept ended x
    merged-any x h = by (shared_chains m kept ended) refl
      where
        by : (l : List ChainInRings) → shared_chains m kept ended ≡ l → merge_at m kept ended (shared_chains m kept ended) ≡ boundaries_by m kept ended x
        by [] is = let low = (subst (λ (l : List ChainInRings). Contains l x) is h).1 in absurd (omega arith)
        by (y ∷ l) is = ap (merge_at m kept ended) is ∙ one-shared_chain y x (subst (λ (l : List ChainInRings). Contains l y) (sym is) (Contains-first y l)) h
