-- Two faces of a valid map have a shared chain exactly where the ended one comes back along a ring of the kept one, from a side on
-- whose twin it doesn't have.
use Rattle.std.proofs.Common.{◌≡◌, ◌≢◌, ℕ, zero, suc, ◌+◌, ◌-◌, ◌<◌, le_refl, inl, inr, refl, sym, ap, subst, ◌∙◌, List, [], ◌∷◌, length, map, Bool, true, false, true≢false, not, arith}
use Rattle.std.proofs.lemmas.Bool.{and_parts, and_from, or_cases, or_left, or_right, eqb-true}
use Rattle.std.proofs.lemmas.Bool.Decides.{nat_tests}
use Rattle.std.proofs.lemmas.Cmp.{nat_eq_equiv}
use Rattle.std.proofs.lemmas.List.Elements.{Contains-append_left, Contains-append_right, Contains-append_cases}
use Rattle.std.proofs.lemmas.List.Sorted.{IsPermutation-sym, Contains-permutation}
use Rattle.std.specs.Prelude.{◌&&◌, ◌==◌, nat_lt, flat_map, if◌then◌else◌, unwrap_or, option_map, Option}
use Rattle.std.specs.List.{Contains, list_any}
use Rattle.cad_rows.specs.declared.names.Face.{Face}
use Rattle.cad_rings.specs.Cycle.{Ring, Side, opposite, sides_of, turned, IsSameRing}
use Rattle.cad_rings.specs.Canonical.{least_rotation}
use Rattle.cad_rings.proofs.CallerLemmas.{IsSameRing-sym, IsSameRing-length, IsSameRing-least_rotation}
use Rattle.cad_map.specs.declared.boundary.Boundary.{Boundary}
use Rattle.cad_map.specs.Boundaries.{bounding, canonical_form, canonical_order}
use Rattle.cad_map.specs.Map.{Map, rings_at, rings_of, all_sides}
use Rattle.cad_map.specs.Chain.{are_distinct}
use Rattle.cad_map.specs.Valid.{IsValid}
use Rattle.cad_map.specs.Walk.{first_side}
use Rattle.cad_map.specs.Merger.{ChainInRings, shared_sides, is_along, is_around, places, shared_chains, shared_chains_of_rings}
use Rattle.cad_map.specs.Merger.ChainInRings.{along, around}
use Rattle.cad_map.specs.declared.shared_chain.SharedChain.{SharedChain}
use Rattle.cad_map.specs.declared.shared_chain.SharedChain.TheVariants.{Along, Around}
use Rattle.cad_map.specs.SharedChains.{IsSharedChain}
use Rattle.cad_map.specs.Steps.{next_side, steps, runs_back, has_twin_in, chain_along, begins_chain, is_before_chain, runs_round, has_chain_along, IsFoundAlong}
use Rattle.cad_map.proofs.Lists.Elements.{Contains-first, Contains-later, Contains-flat_map, Contains-in_part, Contains-map, list_any-Contains}
use Rattle.cad_map.proofs.Lists.ElementFacts.{map-Contains}
use Rattle.cad_map.proofs.Boundaries.CanonicalOrder.{IsPermutation-canonical_order}
use Rattle.cad_map.proofs.SharedChains.FoundChains.{one_if, among-ring, ring-among, ring-there}
use Rattle.cad_map.proofs.SharedChains.Steps.{points_along, distinct-open}
use Rattle.cad_map.proofs.SharedChains.StepsOfRings.{IsWalked, side-same, has_first, next-there, side-leading}
use Rattle.cad_map.proofs.SharedChains.SharedPoints.{two_faces, back, points-differ, before-unshared}
use Rattle.cad_map.proofs.SharedChains.NextSides.{ring-walked, beyond-ring, beyond-from}
use Rattle.cad_map.proofs.SharedChains.ChainsOfRings as two_rings

-- an element that passes the test
pub list_any-found : {X : Type 0} (test : X → Bool) (xs : List X) → list_any test xs ≡ true → (x : X) × Contains xs x × (test x ≡ true)
list_any-found test [] some = absurd (true≢false (sym some))
list_any-found test (x ∷ xs) some = elim (or_cases (test x) (list_any test xs) some) [
  | inl here ↦ (x, Contains-first x xs, here)
  | inr later ↦ let found = list_any-found test xs later in (found.0, Contains-later x xs found.0 found.1, found.2)
]

-- where the test passes, the element is there
if_one : {X : Type 0} (b : Bool) (x : X) → b ≡ true → Contains (if b then x ∷ [] else []) x
if_one true x is = Contains-first x []
if_one false x is = absurd (true≢false (sym is))

places-Contains : (from i : ℕ) (xs : List ℕ) → i < length xs → Contains (places from xs) (from + i)
places-Contains from i [] within = absurd (omega arith)
places-Contains from zero (x ∷ xs) within = let e : from ≡ from + 0 = omega arith in subst (Contains (from ∷ places (from + 1) xs)) e (Contains-first from (places (from + 1) xs))
places-Contains from (suc i) (x ∷ xs) within =
    let e : from + 1 + i ≡ from + suc i = omega arith in
    Contains-later from (places (from + 1) xs) (from + suc i) (subst (Contains (places (from + 1) xs)) e (places-Contains (from + 1) i xs (omega arith)))

place-there : (i : ℕ) (xs : List ℕ) → i < length xs → Contains (places 0 xs) i
place-there i xs within = let e : 0 + i ≡ i = omega arith in subst (Contains (places 0 xs)) e (places-Contains 0 i xs within)

-- ---- The rings of a face, as they are kept and in canonical order

module _ (m : Map) (f : Face) (bs : List Boundary) (is : canonical_order bs ≡ m.boundaries) where
  pub as_canonical : (ring : Ring) → Contains (rings_at f bs) ring → Contains (rings_of m f) (least_rotation ring)
  as_canonical ring there =
      let here = Contains-map canonical_form bs (bounding f ring) (among-ring f bs ring there) in
      let among = Contains-permutation (map canonical_form bs) (canonical_order bs) (bounding f (least_rotation ring)) (IsPermutation-canonical_order bs) here in
      ring-among f m.boundaries (least_rotation ring) (subst (λ (l : List Boundary). Contains l (bounding f (least_rotation ring))) is among)

  pub as_kept : (ring : Ring) → Contains (rings_of m f) ring → (kept : Ring) × Contains (rings_at f bs) kept × IsSameRing ring kept
  as_kept ring there =
      let among = subst (λ (l : List Boundary). Contains l (bounding f ring)) (sym is) (ring-there m f ring there) in
      let one = map-Contains canonical_form bs (bounding f ring) (Contains-permutation (canonical_order bs) (map canonical_form bs) (bounding f ring) (IsPermutation-sym (map canonical_form bs) (canonical_order bs) (IsPermutation-canonical_order bs)) among) in
      let b = one.0 in
      let face = ap (λ (c : Boundary). c.face) one.2 in
      let same : IsSameRing (least_rotation b.ring) b.ring = IsSameRing-sym b.ring (least_rotation b.ring) (IsSameRing-least_rotation b.ring) in
      (b.ring, ring-among f bs b.ring (subst (Contains bs) (λ i. bounding (face i) b.ring) one.1), subst (λ (c : Boundary). IsSameRing c.ring b.ring) one.2 same)

module _ (m : Map) (valid : IsValid m) (kept ended : Face) where
  abbrev next : Side → Side
  next = next_side m

  joins : (s : Side) → (next s).0 ≡ s.1
  joins s = refl

  abbrev n : ℕ
  n = length (shared_sides m kept ended)

  walked : (f : Face) (ring : Ring) → Contains (rings_of m f) ring → IsWalked next ring
  walked f ring there = ring-walked m valid (bounding f ring) (ring-there m f ring there)

  side-there : (f : Face) (ring : Ring) (s : Side) → Contains (rings_of m f) ring → Contains (sides_of ring) s → Contains (all_sides m) s
  side-there f ring s there has = Contains-flat_map (λ b. sides_of b.ring) m.boundaries (bounding f ring) s (ring-there m f ring there) has

  -- ---- What a shared chain is found by

  shared_chain-of_rings : (k e : Ring) (shared_chain : ChainInRings) → Contains (rings_of m kept) k → Contains (rings_of m ended) e → Contains (shared_chains_of_rings n k e) shared_chain → Contains (shared_chains m kept ended) shared_chain
  shared_chain-of_rings k e shared_chain k_there e_there there =
      Contains-flat_map (λ k. flat_map (λ e. shared_chains_of_rings n k e) (rings_of m ended)) (rings_of m kept) k shared_chain k_there
      (Contains-flat_map (λ e. shared_chains_of_rings n k e) (rings_of m ended) e shared_chain e_there there)

  abbrev along_of : Ring → Ring → ℕ → ℕ → List ChainInRings
  along_of k e i j = if is_along n (turned i k) (turned j e) then along n k i e j ∷ [] else []

  around-among : (k e : Ring) → is_around n k e ≡ true → Contains (shared_chains_of_rings n k e) (around k e)
  around-among k e is = Contains-append_left (if is_around n k e then around k e ∷ [] else []) (flat_map (λ i. flat_map (along_of k e i) (places 0 e)) (places 0 k)) (around k e) (if_one (is_around n k e) (around k e) is)

  along-among : (k e : Ring) (i j : ℕ) → i < length k → j < length e → is_along n (turned i k) (turned j e) ≡ true → Contains (shared_chains_of_rings n k e) (along n k i e j)
  along-among k e i j in_k in_e is =
      let shared_chain = along n k i e j in
      Contains-append_right (if is_around n k e then around k e ∷ [] else []) (flat_map (λ i. flat_map (along_of k e i) (places 0 e)) (places 0 k)) shared_chain
      (Contains-flat_map (λ i. flat_map (along_of k e i) (places 0 e)) (places 0 k) i shared_chain (place-there i k in_k)
      (Contains-flat_map (along_of k e i) (places 0 e) j shared_chain (place-there j e in_e) (if_one (is_along n (turned i k) (turned j e)) shared_chain is)))

  -- ---- One ring of the kept face

  module _ (k r : Ring) (k_there : Contains (rings_of m kept) k) (same : IsSameRing k r) where
    side-in : (s : Side) → Contains (sides_of r) s → Contains (sides_of k) s
    side-in s there = side-same r k s (IsSameRing-sym k r same) there

    round-found : runs_round m ended n r ≡ true → (side : Side) → Contains (sides_of r) side → IsSharedChain m kept ended (Around side)
    round-found runs side side_there =
        let long = IsSameRing-length k r same in
        let first = has_first r (let two = (walked kept k k_there).two in omega (arith, two, long)) in
        let s = first.0 in
        let parts = and_parts (length r == n) (unwrap_or (option_map (λ s. has_twin_in m ended s && runs_back next s n) (first_side r)) false) runs in
        let test : Option Side → Bool = λ o. unwrap_or (option_map (λ s. has_twin_in m ended s && runs_back next s n) o) false in
        let passes = and_parts (has_twin_in m ended s) (runs_back next s n) (sym (ap test first.1) ∙ parts.1) in
        let all : length k ≡ n = sym long ∙ eqb-true (length r) n parts.0 in
        let e = beyond-ring m valid ended s passes.0 in
        let e_there = ring-among ended m.boundaries e.0 e.1 in
        let found = two_rings.around-found next joins k e.0 (walked kept k k_there) (walked ended e.0 e_there) s (side-in s first.2) e.2 (subst (λ (l : ℕ). runs_back next s l ≡ true) (sym all) passes.1) in
        record {
          shared_chain = around k e.0;
          there = shared_chain-of_rings k e.0 (around k e.0) k_there e_there (around-among k e.0 (subst (λ (l : ℕ). is_around l k e.0 ≡ true) all found));
          is = side-in side side_there;
        }

    chain-found : (p : Side) → Contains (sides_of r) p → is_before_chain m ended n p ≡ true → IsSharedChain m kept ended (chain_along next (next p) n)
    chain-found p p_there before =
        let s = next p in
        let last = steps next (n - 1) s in
        let whole = and_parts (not (has_twin_in m ended p)) (begins_chain m ended n s) before in
        let c = and_parts (nat_lt 0 n && has_twin_in m ended s && runs_back next s (n - 1)) (not (s.0 == last.1)) whole.1 in
        let b = and_parts (nat_lt 0 n && has_twin_in m ended s) (runs_back next s (n - 1)) c.0 in
        let a = and_parts (nat_lt 0 n) (has_twin_in m ended s) b.0 in
        let positive = a.0 in
        let some_sides : 0 < n = grind (arith, nat_tests, positive) in
        let pred : suc (n - 1) ≡ n = omega (arith, some_sides) in
        let e = beyond-ring m valid ended s a.1 in
        let e_there = ring-among ended m.boundaries e.0 e.1 in
        let k_in = ring-there m kept k k_there in
        let p_in = side-in p p_there in
        let s_in = next-there next joins k p (walked kept k k_there) p_in in
        let off : ¬ Contains (sides_of e.0) (opposite p) = λ h. true≢false (sym whole.0 ∙ ap not (beyond-from m valid ended p e.0 e_there h)) in
        let apart : s.0 ≢ last.1 = λ is. true≢false (sym c.1 ∙ ap not (ap (λ (q : ℕ). s.0 == q) (sym is) ∙ nat_eq_equiv.refl s.0)) in
        let distinct = points-differ m valid kept ended k e.0 k_in e.1 s s_in e.2 (n - 1) b.1 p p_in off apart in
        let ended_back = back m valid kept ended k e.0 k_in e.1 s s_in e.2 (n - 1) b.1 p p_in off (n - 1) (le_refl (n - 1)) in
        let at = two_rings.along-found next joins k e.0 (walked kept k k_there) (walked ended e.0 e_there) (n - 1) s s_in ended_back b.1 distinct in
        let is = subst (λ (l : ℕ). is_along l (turned at.0 k) (turned at.1 e.0) ≡ true) pred at.4 in
        let shared_chain = along n k at.0 e.0 at.1 in
        record {
          shared_chain = shared_chain;
          there = shared_chain-of_rings k e.0 shared_chain k_there e_there (along-among k e.0 at.0 at.1 at.2 at.3 is);
          is = record { as_many = refl; begins = at.5; ends = at.6 };
        }

    pub ring-found : (chain : SharedChain) → IsFoundAlong m ended n r chain → IsSharedChain m kept ended chain
    ring-found (Along first last sides) found = subst (IsSharedChain m kept ended) (sym found.3) (chain-found found.0 found.1 found.2)
    ring-found (Around side) found = round-found found.0 side found.1

    around-told : (e : Ring) → Contains (rings_of m ended) e → is_around n k e ≡ true → has_chain_along m ended n r ≡ true
    around-told e e_there is =
        let kw = walked kept k k_there in
        let ew = walked ended e e_there in
        let long = IsSameRing-length k r same in
        let first = has_first r (let two = kw.two in omega (arith, two, long)) in
        let s = first.0 in
        let s_there = side-in s first.2 in
        let test : Option Side → Bool = λ o. unwrap_or (option_map (λ s. has_twin_in m ended s && runs_back next s n) o) false in
        let all : length r ≡ n = long ∙ sym (two_rings.around-long next joins k e kw ew n is) in
        let beyond = beyond-from m valid ended s e e_there (two_rings.around-beyond next joins k e kw ew n is s s_there) in
        let runs = two_rings.around-back_along next joins k e kw ew n is n s s_there in
        or_left (runs_round m ended n r) (list_any (is_before_chain m ended n) (sides_of r))
        (and_from (length r == n) (test (first_side r)) (ap (λ (l : ℕ). l == n) all ∙ nat_eq_equiv.refl n)
        (ap test first.1 ∙ and_from (has_twin_in m ended s) (runs_back next s n) beyond runs))

    along-told : (e : Ring) (i j : ℕ) → Contains (rings_of m ended) e → is_along n (turned i k) (turned j e) ≡ true → has_chain_along m ended n r ≡ true
    along-told e i j e_there is =
        let kw = walked kept k k_there in
        let k_in = ring-there m kept k k_there in
        let e_in = ring-there m ended e e_there in
        let chain = two_rings.along-back next joins k e kw (walked ended e e_there) n i j is in
        let s = chain.0 in
        let some = chain.1 in
        let last = steps next (n - 1) s in
        let positive : nat_lt 0 n ≡ true = grind (arith, nat_tests, some) in
        let beyond = beyond-from m valid ended s e e_there chain.3 in
        let before = side-leading next joins k s kw chain.2 in
        let p = before.0 in
        let unshared = before-unshared m valid kept ended k e k_in e_in i j is s p chain.6 (two_faces m valid kept ended k e k_in e_in s chain.2 chain.3) before.1 before.2 chain.5 in
        let leads_on = distinct-open next joins (n - 1) s (let pred : suc (n - 1) ≡ n = omega (arith, some) in subst (λ (l : ℕ). are_distinct (points_along next s l) ≡ true) (sym pred) chain.5) in
        let begins : begins_chain m ended n (next p) ≡ true = ap (begins_chain m ended n) before.2 ∙
        and_from (nat_lt 0 n && has_twin_in m ended s && runs_back next s (n - 1)) (not (s.0 == last.1))
        (and_from (nat_lt 0 n && has_twin_in m ended s) (runs_back next s (n - 1)) (and_from (nat_lt 0 n) (has_twin_in m ended s) positive beyond) chain.4) (ap not leads_on) in
        or_right (runs_round m ended n r) (list_any (is_before_chain m ended n) (sides_of r))
        (list_any-Contains (is_before_chain m ended n) (sides_of r) p (side-same k r p same before.1)
        (and_from (not (has_twin_in m ended p)) (begins_chain m ended n (next p)) (ap not unshared) begins))

    pub ring-told : (e : Ring) (shared_chain : ChainInRings) → Contains (rings_of m ended) e → Contains (shared_chains_of_rings n k e) shared_chain → has_chain_along m ended n r ≡ true
    ring-told e shared_chain e_there h = elim (Contains-append_cases (if is_around n k e then around k e ∷ [] else []) (flat_map (λ i. flat_map (along_of k e i) (places 0 e)) (places 0 k)) shared_chain h) [
      | inl here ↦ around-told e e_there (one_if (is_around n k e) (around k e) shared_chain here).0
      | inr there ↦
          let i = Contains-in_part (λ i. flat_map (along_of k e i) (places 0 e)) (places 0 k) shared_chain there in
          let j = Contains-in_part (along_of k e i.0) (places 0 e) shared_chain i.2 in
          along-told e i.0 j.0 e_there (one_if (is_along n (turned i.0 k) (turned j.0 e)) (along n k i.0 e j.0) shared_chain j.2).0
    ]

  -- ---- All rings of the kept face, as something keeps them

  module _ (bs : List Boundary) (is : canonical_order bs ≡ m.boundaries) where
    -- What is found along one of them is a shared chain.
    pub chain-shared : (ring : Ring) → Contains (rings_at kept bs) ring → (chain : SharedChain) → IsFoundAlong m ended n ring chain → IsSharedChain m kept ended chain
    chain-shared ring there chain found =
        ring-found (least_rotation ring) ring (as_canonical m kept bs is ring there) (IsSameRing-sym ring (least_rotation ring) (IsSameRing-least_rotation ring)) chain found

    -- And where nothing is found along any there is no shared chain.
    pub shared_chain-none : list_any (has_chain_along m ended n) (rings_at kept bs) ≡ false → shared_chains m kept ended ≡ []
    shared_chain-none none = by (shared_chains m kept ended) refl
      where
        some : (shared_chain : ChainInRings) → Contains (shared_chains m kept ended) shared_chain → ⊥
        some shared_chain h =
            let k = Contains-in_part (λ k. flat_map (λ e. shared_chains_of_rings n k e) (rings_of m ended)) (rings_of m kept) shared_chain h in
            let e = Contains-in_part (λ e. shared_chains_of_rings n k.0 e) (rings_of m ended) shared_chain k.2 in
            let r = as_kept m kept bs is k.0 k.1 in
            true≢false (sym (list_any-Contains (has_chain_along m ended n) (rings_at kept bs) r.0 r.1 (ring-told k.0 r.0 k.1 r.2 e.0 shared_chain e.1 e.2)) ∙ none)

        by : (found : List ChainInRings) → shared_chains m kept ended ≡ found → found ≡ []
        by [] same = refl
        by (shared_chain ∷ found) same = absurd (some shared_chain (subst (λ (l : List ChainInRings). Contains l shared_chain) (sym same) (Contains-first shared_chain found)))
