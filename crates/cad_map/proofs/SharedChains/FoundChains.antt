-- What a shared chain that is found says: of two rings of the two faces it takes out the sides of a chain, both ways.
use Rattle.std.proofs.Common.{◌≡◌, ℕ, suc, add-one, ◌+◌, ◌≤◌, ◌<◌, ◌⊎◌, inl, inr, refl, sym, ap, subst, ◌∙◌, List, [], ◌∷◌, ◌++◌, length, take, map, filter, reverse, Bool, true, false, arith}
use Rattle.std.proofs.lemmas.Bool.{and_parts, eqb-true}
use Rattle.std.proofs.lemmas.Bool.Decides.{nat_tests}
use Rattle.std.proofs.lemmas.List.{append-nil, length-append}
use Rattle.std.proofs.lemmas.List.Elements.{Contains-append_cases, Contains-append_left, Contains-append_right}
use Rattle.std.proofs.lemmas.List.Sorted.{IsPermutation-sym, IsPermutation-trans, IsPermutation-append_right, IsPermutation-reverse, Contains-permutation}
use Rattle.std.proofs.lemmas.Slice.Eq.{bytes_eq-Decides}
use Rattle.std.specs.Prelude.{◌&&◌, ◌==◌, nat_lt, flat_map, if◌then◌else◌, IsPermutation}
use Rattle.std.specs.List.{AllByRecursion, Contains}
use Rattle.std.specs.Str.{bytes_eq as is_same_list}
use Rattle.cad_rows.specs.declared.names.Face.{Face}
use Rattle.cad_rings.specs.Cycle.{Ring, Side, opposite, sides_along, sides_of, turned}
use Rattle.cad_rings.specs.Canonical.{least_rotation}
use Rattle.cad_rings.specs.Surgery.{both_ways, sides_of_chain, chain_from, HaveChainInCommon, joined}
use Rattle.cad_rings.proofs.CallerLemmas.{IsJoined, is_joined, sides_of-joined, sides_of_chain-is, length-sides_along, length-sides_of, length-turned, sides_along-append, sides_along-reverse, sides_of-same, sides_of-reversed, both_ways-apart, permuted_as, IsSameRing-turned, IsSameRing-from_least_rotation}
use Rattle.cad_map.specs.declared.boundary.Boundary.{Boundary}
use Rattle.cad_map.specs.Boundaries.{is_face, bounding}
use Rattle.cad_map.specs.Map.{Map, rings_at, rings_of}
use Rattle.cad_map.specs.Chain.{are_distinct}
use Rattle.cad_map.specs.Merger.{ChainInRings, shared_sides, is_along, is_around, places, shared_chains, shared_chains_of_rings, boundaries_by, boundaries_merged}
use Rattle.cad_map.specs.Merger.ChainInRings.{along, around}
use Rattle.cad_map.proofs.Lists.Elements.{Contains-in_part, Contains-cases, Contains-first, Contains-map}
use Rattle.cad_map.proofs.Lists.ElementFacts.{Contains-filter, filter-Contains, map-Contains}
use Rattle.cad_map.proofs.Boundaries.Looks.{is_face-refl}
use Rattle.cad_map.proofs.Boundaries.FacesBeside.{is_face-same}

-- ---- What a shared chain is

-- the ring has a side that the one ring has, and the other ring its opposite
pub record HasCommon (ring k e : Ring) : Type 0 where
  pub side : Side
  pub there : Contains (sides_of ring) side
  pub of_first : Contains (sides_of k) side
  pub of_second : Contains (sides_of e) (opposite side)

-- The rings k and e have, both ways, the sides of a chain of as many sides as are shared, and those of the rings that come in their place.
pub record IsChainInRings (m : Map) (kept ended : Face) (shared_chain : ChainInRings) : Type 0 where
  pub k : Ring
  pub e : Ring
  pub more : List Ring
  pub chain : List Side
  pub k_there : Contains m.boundaries (bounding kept k)
  pub e_there : Contains m.boundaries (bounding ended e)
  pub sides : IsPermutation (sides_of k ++ sides_of e) (both_ways chain ++ flat_map sides_of more)
  pub in_kept : (s : Side) → Contains chain s → Contains (sides_of k) s
  pub in_ended : (s : Side) → Contains chain s → Contains (sides_of e) (opposite s)
  pub long : length chain ≡ length (shared_sides m kept ended)
  pub long_enough : AllByRecursion (λ ring. (3 ≤ length ring) ⊎ HasCommon ring k e) more
  pub merged : boundaries_by m kept ended shared_chain ≡ boundaries_merged m kept ended k e more

-- ---- Rings with a chain in common

module _ (i j n : ℕ) (k e : Ring) (common : HaveChainInCommon i j n k e) where
  it : IsJoined i j n k e
  it = is_joined i j n k e common

  abbrev chain_of : List Side
  chain_of = sides_of_chain (chain_from i n k)

  chain-is : chain_of ≡ sides_along it.c it.mid it.d
  chain-is = ap sides_of_chain it.chain ∙ sides_of_chain-is it.c it.mid it.d

  pub length-chain : length chain_of ≡ n
  length-chain = ap length chain-is ∙ length-sides_along it.c it.mid it.d ∙ it.long

  -- the sides of the first ring, and of the second, from the chain on
  sides_of-first : sides_of (turned i k) ≡ sides_along it.c it.mid it.d ++ sides_along it.d it.r it.c
  sides_of-first = ap sides_of it.from_c ∙ sides_along-append it.c it.mid it.d it.r it.c

  sides_of-second : sides_of (turned j e) ≡ reverse (map opposite (sides_along it.c it.mid it.d)) ++ sides_along it.c it.s it.d
  sides_of-second = ap sides_of it.from_d ∙ sides_along-append it.d (reverse it.mid) it.c it.s it.d ∙ ap (λ (l : List Side). l ++ sides_along it.c it.s it.d) (sides_along-reverse it.c it.mid it.d)

  to_first : (s : Side) → Contains (sides_of (turned i k)) s → Contains (sides_of k) s
  to_first s there = Contains-permutation (sides_of (turned i k)) (sides_of k) s (IsPermutation-sym (sides_of k) (sides_of (turned i k)) (sides_of-same k (turned i k) (IsSameRing-turned i k))) there

  to_second : (s : Side) → Contains (sides_of (turned j e)) s → Contains (sides_of e) s
  to_second s there = Contains-permutation (sides_of (turned j e)) (sides_of e) s (IsPermutation-sym (sides_of e) (sides_of (turned j e)) (sides_of-same e (turned j e) (IsSameRing-turned j e))) there

  pub chain-first : (s : Side) → Contains chain_of s → Contains (sides_of k) s
  chain-first s there =
      let C = sides_along it.c it.mid it.d in
      to_first s (subst (λ (l : List Side). Contains l s) (sym sides_of-first) (Contains-append_left C (sides_along it.d it.r it.c) s (subst (λ (l : List Side). Contains l s) chain-is there)))

  pub chain-second : (s : Side) → Contains chain_of s → Contains (sides_of e) (opposite s)
  chain-second s there =
      let C = sides_along it.c it.mid it.d in
      let back = map opposite C in
      let has = Contains-permutation back (reverse back) (opposite s) (IsPermutation-reverse back) (Contains-map opposite C s (subst (λ (l : List Side). Contains l s) chain-is there)) in
      to_second (opposite s) (subst (λ (l : List Side). Contains l (opposite s)) (sym sides_of-second) (Contains-append_left (reverse back) (sides_along it.c it.s it.d) (opposite s) has))

  -- the ring round both has three points, or it goes there and back along a side that both have
  pub joined-long : (3 ≤ length (joined i j n k e)) ⊎ HasCommon (joined i j n k e) k e
  joined-long = by it.r it.s refl refl
    where
      by : (r s : List ℕ) → it.r ≡ r → it.s ≡ s → (3 ≤ length (joined i j n k e)) ⊎ HasCommon (joined i j n k e) k e
      by [] [] er es =
          let whole : joined i j n k e ≡ it.d ∷ it.c ∷ [] = it.is ∙ (λ t. it.d ∷ er t ++ it.c ∷ es t) in
          let side : Side = (it.d, it.c) in
          inr (record {
            side = side;
            there = subst (λ (l : Ring). Contains (sides_of l) side) (sym whole) (Contains-first side ((it.c, it.d) ∷ []));
            of_first = to_first side (subst (λ (l : List Side). Contains l side) (sym (sides_of-first ∙ (λ t. sides_along it.c it.mid it.d ++ sides_along it.d (er t) it.c)))
                (Contains-append_right (sides_along it.c it.mid it.d) (side ∷ []) side (Contains-first side [])));
            of_second = let back = reverse (map opposite (sides_along it.c it.mid it.d)) in
                to_second (opposite side) (subst (λ (l : List Side). Contains l (opposite side)) (sym (sides_of-second ∙ (λ t. back ++ sides_along it.c (es t) it.d)))
                (Contains-append_right back (opposite side ∷ []) (opposite side) (Contains-first (opposite side) [])));
          })
      by (x ∷ r) s er es = let e1 = ap length it.is in let e2 = length-append (it.d ∷ it.r) (it.c ∷ it.s) in let e3 = ap length er in inl (omega (arith, e1, e2, e3))
      by [] (x ∷ s) er es = let e1 = ap length it.is in let e2 = length-append (it.d ∷ it.r) (it.c ∷ it.s) in let e3 = ap length es in inl (omega (arith, e1, e2, e3))

-- the rings as they are written begin with one chain, of n sides, in opposite directions
pub record BeginAlong (n : ℕ) (kept ended : Ring) : Type 0 where
  pub some : 0 < n
  pub common : take (suc n) kept ≡ reverse (take (suc n) ended)
  pub distinct : are_distinct (take (suc n) kept) ≡ true
  pub more_in_kept : n < length kept
  pub more_in_ended : n < length ended

pub along-passed : (n : ℕ) (kept ended : Ring) → is_along n kept ended ≡ true → BeginAlong n kept ended
along-passed n kept ended is =
    let same = is_same_list (take (n + 1) kept) (reverse (take (n + 1) ended)) in
    let d = and_parts (nat_lt 0 n && same && are_distinct (take (n + 1) kept) && nat_lt n (length kept)) (nat_lt n (length ended)) is in
    let c = and_parts (nat_lt 0 n && same && are_distinct (take (n + 1) kept)) (nat_lt n (length kept)) d.0 in
    let b = and_parts (nat_lt 0 n && same) (are_distinct (take (n + 1) kept)) c.0 in
    let a = and_parts (nat_lt 0 n) same b.0 in
    let first = a.0 in
    let second = c.1 in
    let third = d.1 in
    let common = (bytes_eq-Decides (take (n + 1) kept) (reverse (take (n + 1) ended))).0 a.1 in
    let distinct = b.1 in
    record {
      some = grind (arith, nat_tests, first);
      common = rw (add-one n) at common;
      distinct = rw (add-one n) at distinct;
      more_in_kept = grind (arith, nat_tests, second);
      more_in_ended = grind (arith, nat_tests, third);
    }

-- so they have it in common
pub common-along : (n i j : ℕ) (k e : Ring) → is_along n (turned i k) (turned j e) ≡ true → HaveChainInCommon i j n k e
common-along n i j k e is =
    let it = along-passed n (turned i k) (turned j e) is in
    record {
      some = it.some;
      more_in_kept = subst (λ (l : ℕ). n < l) (length-turned i k) it.more_in_kept;
      more_in_ended = subst (λ (l : ℕ). n < l) (length-turned j e) it.more_in_ended;
      common = rw (add-one n) it.common;
    }

-- ---- Rings that are each other's reverse

pub around-sides : (k e : Ring) → IsPermutation (map opposite (sides_of k)) (sides_of e) → IsPermutation (sides_of k ++ sides_of e) (both_ways (sides_of k) ++ [])
around-sides k e back =
    permuted_as (sides_of k ++ sides_of e) (sides_of k ++ sides_of e) (both_ways (sides_of k) ++ []) (both_ways (sides_of k)) refl (append-nil (both_ways (sides_of k)))
    (IsPermutation-trans (sides_of k ++ sides_of e) (sides_of k ++ map opposite (sides_of k)) (both_ways (sides_of k))
    (IsPermutation-append_right (sides_of k) (sides_of e) (map opposite (sides_of k)) (IsPermutation-sym (map opposite (sides_of k)) (sides_of e) back))
    (IsPermutation-sym (both_ways (sides_of k)) (sides_of k ++ map opposite (sides_of k)) (both_ways-apart (sides_of k))))

pub around-back : (n : ℕ) (k e : Ring) → is_around n k e ≡ true → IsPermutation (map opposite (sides_of k)) (sides_of e)
around-back n k e is =
    let parts = and_parts (n == length k) (is_same_list (least_rotation (reverse k)) (least_rotation e)) is in
    let same = IsSameRing-from_least_rotation (reverse k) e ((bytes_eq-Decides (least_rotation (reverse k)) (least_rotation e)).0 parts.1) in
    IsPermutation-trans (map opposite (sides_of k)) (sides_of (reverse k)) (sides_of e) (sides_of-reversed k) (sides_of-same (reverse k) e same)

-- ---- What was found

-- where the test passes, the element is this one
pub one_if : {X : Type 0} (b : Bool) (x y : X) → Contains (if b then x ∷ [] else []) y → (b ≡ true) × (x ≡ y)
one_if true x y h = elim (Contains-cases x [] y h) [ inl same ↦ (refl, same) | inr none ↦ let low = none.1 in absurd (omega arith) ]
one_if false x y h = let low = h.1 in absurd (omega arith)

-- a ring of a face is one of these, with that face
pub among-ring : (f : Face) (bs : List Boundary) (ring : Ring) → Contains (rings_at f bs) ring → Contains bs (bounding f ring)
among-ring f bs ring h =
    let one = map-Contains (λ (b : Boundary). b.ring) (filter (λ b. is_face f b.face) bs) ring h in
    let there = filter-Contains (λ (b : Boundary). is_face f b.face) bs one.0 one.1 in
    subst (Contains bs) (λ i. bounding (sym (is_face-same f one.0.face there.1) i) (one.2 i)) there.0

pub ring-among : (f : Face) (bs : List Boundary) (ring : Ring) → Contains bs (bounding f ring) → Contains (rings_at f bs) ring
ring-among f bs ring there =
    Contains-map (λ (b : Boundary). b.ring) (filter (λ b. is_face f b.face) bs) (bounding f ring) (Contains-filter (λ (b : Boundary). is_face f b.face) bs (bounding f ring) there (is_face-refl f))

pub ring-there : (m : Map) (f : Face) (ring : Ring) → Contains (rings_of m f) ring → Contains m.boundaries (bounding f ring)
ring-there m f ring h = among-ring f m.boundaries ring h

module _ (m : Map) (kept ended : Face) where
  abbrev n : ℕ
  n = length (shared_sides m kept ended)

  module _ (k e : Ring) (k_there : Contains m.boundaries (bounding kept k)) (e_there : Contains m.boundaries (bounding ended e)) where
    unfoldable pub along-found : (i j : ℕ) → is_along n (turned i k) (turned j e) ≡ true → IsChainInRings m kept ended (along n k i e j)
    along-found i j is =
        let common = common-along n i j k e is in
        record {
          k = k;
          e = e;
          more = joined i j n k e ∷ [];
          chain = chain_of i j n k e common;
          k_there = k_there;
          e_there = e_there;
          sides = permuted_as (sides_of k ++ sides_of e) (sides_of k ++ sides_of e) (both_ways (chain_of i j n k e common) ++ (sides_of (joined i j n k e) ++ []))
              (both_ways (chain_of i j n k e common) ++ sides_of (joined i j n k e)) refl
              (ap (λ (l : List Side). both_ways (chain_of i j n k e common) ++ l) (append-nil (sides_of (joined i j n k e))))
              (sides_of-joined i j n k e common);
          in_kept = chain-first i j n k e common;
          in_ended = chain-second i j n k e common;
          long = length-chain i j n k e common;
          long_enough = (joined-long i j n k e common, tt);
          merged = refl;
        }

    unfoldable pub around-found : is_around n k e ≡ true → IsChainInRings m kept ended (around k e)
    around-found is =
        let back = around-back n k e is in
        let parts = and_parts (n == length k) _ is in
        record {
          k = k;
          e = e;
          more = [];
          chain = sides_of k;
          k_there = k_there;
          e_there = e_there;
          sides = around-sides k e back;
          in_kept = λ s there. there;
          in_ended = λ s there. Contains-permutation (map opposite (sides_of k)) (sides_of e) (opposite s) back (Contains-map opposite (sides_of k) s there);
          long = length-sides_of k ∙ sym (eqb-true n (length k) parts.0);
          long_enough = tt;
          merged = refl;
        }

    of_rings : (shared_chain : ChainInRings) → Contains (shared_chains_of_rings n k e) shared_chain → IsChainInRings m kept ended shared_chain
    of_rings shared_chain h = elim (Contains-append_cases (if is_around n k e then around k e ∷ [] else []) _ shared_chain h) [
      | inl here ↦ let one = one_if (is_around n k e) (around k e) shared_chain here in subst (IsChainInRings m kept ended) one.1 (around-found one.0)
      | inr there ↦
          let i = Contains-in_part (λ i. flat_map (λ j. if is_along n (turned i k) (turned j e) then along n k i e j ∷ [] else []) (places 0 e)) (places 0 k) shared_chain there in
          let j = Contains-in_part (λ j. if is_along n (turned i.0 k) (turned j e) then along n k i.0 e j ∷ [] else []) (places 0 e) shared_chain i.2 in
          let one = one_if (is_along n (turned i.0 k) (turned j.0 e)) (along n k i.0 e j.0) shared_chain j.2 in
          subst (IsChainInRings m kept ended) one.1 (along-found i.0 j.0 one.0)
    ]

  -- A shared chain that is found is one.
  pub shared_chain-found : (shared_chain : ChainInRings) → Contains (shared_chains m kept ended) shared_chain → IsChainInRings m kept ended shared_chain
  shared_chain-found shared_chain h =
      let k = Contains-in_part (λ k. flat_map (λ e. shared_chains_of_rings n k e) (rings_of m ended)) (rings_of m kept) shared_chain h in
      let e = Contains-in_part (λ e. shared_chains_of_rings n k.0 e) (rings_of m ended) shared_chain k.2 in
      of_rings k.0 e.0 (ring-there m kept k.0 k.1) (ring-there m ended e.0 e.1) shared_chain e.2

  -- The rings of a shared chain have it in common.
  pub along-known : (l : ℕ) (k : Ring) (i : ℕ) (e : Ring) (j : ℕ) → Contains (shared_chains m kept ended) (along l k i e j) → HaveChainInCommon i j l k e
  along-known l k i e j h =
      let a = Contains-in_part (λ k. flat_map (λ e. shared_chains_of_rings n k e) (rings_of m ended)) (rings_of m kept) (along l k i e j) h in
      let b = Contains-in_part (λ e. shared_chains_of_rings n a.0 e) (rings_of m ended) (along l k i e j) a.2 in
      elim (Contains-append_cases (if is_around n a.0 b.0 then around a.0 b.0 ∷ [] else []) _ (along l k i e j) b.2) [
        | inl here ↦ let one = (one_if (is_around n a.0 b.0) (around a.0 b.0) (along l k i e j) here).1 in cc
        | inr there ↦
            let i' = Contains-in_part (λ i. flat_map (λ j. if is_along n (turned i a.0) (turned j b.0) then along n a.0 i b.0 j ∷ [] else []) (places 0 b.0)) (places 0 a.0) (along l k i e j) there in
            let j' = Contains-in_part (λ j. if is_along n (turned i'.0 a.0) (turned j b.0) then along n a.0 i'.0 b.0 j ∷ [] else []) (places 0 b.0) (along l k i e j) i'.2 in
            let one = one_if (is_along n (turned i'.0 a.0) (turned j'.0 b.0)) (along n a.0 i'.0 b.0 j'.0) (along l k i e j) j'.2 in
            same n a.0 i'.0 b.0 j'.0 one.1 (common-along n i'.0 j'.0 a.0 b.0 one.0)
      ]
    where
      same : (l' : ℕ) (k' : Ring) (i' : ℕ) (e' : Ring) (j' : ℕ) → along l' k' i' e' j' ≡ along l k i e j → HaveChainInCommon i' j' l' k' e' → HaveChainInCommon i j l k e
      same l' k' i' e' j' is common =
          let el : l' ≡ l = cc in
          let ek : k' ≡ k = cc in
          let ei : i' ≡ i = cc in
          let ee : e' ≡ e = cc in
          let ej : j' ≡ j = cc in
          subst (λ (t : ℕ × ℕ × ℕ × Ring × Ring). HaveChainInCommon t.0 t.1 t.2 t.3 t.4) (λ p. (ei p, ej p, el p, ek p, ee p)) common
