-- What neighbours with one key tell of keys sorted with their places.
use Rattle.std.proofs.Common.{◌≡◌, ◌≢◌, ◌∙◌, ℕ, ◌+◌, ◌-◌, ◌<◌, ◌≤◌, List, length, get_or, map, take}
use Rattle.std.proofs.Common.{refl, sym, Bool, false, eqb, inl, inr, arith, Option, Some, None, min}
use Rattle.std.specs.Prelude.{IfSome, IfNone, MatchOption, unwrap_or}
use Rattle.std.specs.List.{All, AllPairs, Contains}
use Rattle.std.specs.List.Sorted.{IsPermutation, IsSortedBy}
use Rattle.std.specs.Ordering.{is_lt, nat_cmp, ordering_then}
use Rattle.std.proofs.lemmas.Bool.{cases_lt}
use Rattle.std.proofs.lemmas.Bool.Decides.{nat_tests, Decides-eqb}
use Rattle.std.proofs.lemmas.Cmp.{nat_cmp_total, nat_eq_equiv, then_total, on_total}
use Rattle.std.proofs.lemmas.List.{get_or-take, get_or-map, get_or_default, length-map, length-take}
use Rattle.std.proofs.lemmas.List.FromFn.{length-range_with_len, length-map-range_with_len, get_or-map-range_with_len}
use Rattle.std.proofs.lemmas.List.Sorted.{ranks_by, sorted_far, All-permutation, Contains-permutation, IsPermutation-map}
use Rattle.std.proofs.lemmas.Map.Keys.{IsDistinct-IsPermutation}
use Rattle.std.proofs.lemmas.Map.Made.{AllPairs-from_IsDistinct, IsDistinct-from_AllPairs}
use Rattle.sweep.specs.declared.repeats.Keyed.{Keyed}
use Rattle.sweep.specs.Repeats.{AreDistinct, IsFirstRepeat, keyed_of, FollowsEqual, PrecedesWithin}

not_below : (a b c d : ℕ) → is_lt (ordering_then (nat_cmp a b) (nat_cmp c d)) ≡ false
    → (b ≤ a) × (a ≡ b → d ≤ c)
not_below a b c d h = (grind (arith, nat_tests), λ e. grind (arith, nat_tests))

-- by its key, and of one key by its place
abbrev pub is_before : Keyed → Keyed → Bool
is_before a b = is_lt (ordering_then (nat_cmp a.key b.key) (nat_cmp a.place b.place))

keyed_at : (keys : List ℕ) (i : ℕ) (d : Keyed) → i < length keys
    → get_or (keyed_of keys) i d ≡ record { key = get_or keys i 0; place = i }
keyed_at keys i d within = get_or-map-range_with_len _ 0 (length keys) i i d within (omega arith)

-- the keys with their places, in order of both
pub record IsSorting (keys : List ℕ) (ys : List Keyed) : Type 0 where
  pub moved : IsPermutation (keyed_of keys) ys
  pub up : IsSortedBy is_before ys

-- the key stands at the place
abbrev pub StandsThere : List ℕ → Keyed → Type 0
StandsThere keys y = (y.place < length keys) × (get_or keys y.place 0 ≡ y.key)

module _ (keys : List ℕ) (ys : List Keyed) (s : IsSorting keys ys) where
  own : All (StandsThere keys) ys
  own = All-permutation (StandsThere keys) (keyed_of keys) ys s.moved (λ k d within.
      let short : k < length keys = simp length-map-range_with_len at within in
      rw (keyed_at keys k d short) (short, refl))

  has : (i : ℕ) → i < length keys → Contains ys (record { key = get_or keys i 0; place = i })
  has i within =
      Contains-permutation (keyed_of keys) ys _ s.moved
      (i, simp length-map-range_with_len within, keyed_at keys i _ within)

  far : (i j : ℕ) (d : Keyed) → i ≤ j → j < length ys
      → ((get_or ys i d).key ≤ (get_or ys j d).key)
      × ((get_or ys i d).key ≡ (get_or ys j d).key → (get_or ys i d).place ≤ (get_or ys j d).place)
  far i j d le within =
      let by_key = on_total (λ (k : Keyed). k.key) nat_cmp_total in
      let by_place = on_total (λ (k : Keyed). k.place) nat_cmp_total in
      let order = ranks_by (then_total by_key by_place) (λ (k : Keyed). k) in
      let h = not_below _ _ _ _ (sorted_far is_before order ys s.up i j d le within) in
      (h.0, λ e. h.1 (sym e))

  places_differ : AllPairs (λ a b. a ≢ b) (map (λ (k : Keyed). k.place) ys)
  places_differ =
      let place = λ (k : Keyed). k.place in
      let as_they_stood : AllPairs (λ a b. a ≢ b) (map place (keyed_of keys)) = λ i j d lt within.
      let short : j < length keys = simp (length-map, length-range_with_len) at within in
      let whole : length (keyed_of keys) ≡ length keys = length-map-range_with_len _ 0 (length keys) in
      let e : Keyed = record { key = 0; place = 0 } in
      rw (get_or-map place (keyed_of keys) i e d (omega arith), keyed_at keys i e (omega arith))
      (rw (get_or-map place (keyed_of keys) j e d (omega arith), keyed_at keys j e short) (λ is. omega arith)) in
      let moved = IsPermutation-map place (keyed_of keys) ys s.moved in
      let stood = IsDistinct-from_AllPairs Decides-eqb _ as_they_stood in
      AllPairs-from_IsDistinct Decides-eqb _ (IsDistinct-IsPermutation eqb nat_eq_equiv.symm _ _ moved stood)

  apart : (i j : ℕ) (d : Keyed) → i < j → j < length ys → (get_or ys i d).place ≢ (get_or ys j d).place
  apart i j d lt within =
      let h = places_differ i j d.place lt (simp length-map within) in
      let place = λ (k : Keyed). k.place in
      rw (get_or-map place ys i d d.place (omega arith), get_or-map place ys j d d.place within) at h

  -- of two equal keys the second stands right behind one with its key
  behind : (i j d : ℕ) → i < j → j < length keys → get_or keys i d ≡ get_or keys j d → FollowsEqual ys j
  behind i j e lt within alike =
      let same : get_or keys i 0 ≡ get_or keys j 0 =
      get_or_default keys i 0 e (omega arith) ∙ alike ∙ get_or_default keys j e 0 within in
      let a = has i (omega arith) in
      let b = has j within in
      let at_a : (d : Keyed) → get_or ys a.0 d ≡ record { key = get_or keys i 0; place = i } =
      λ d. get_or_default ys a.0 d _ a.1 ∙ a.2 in
      let at_b : (d : Keyed) → get_or ys b.0 d ≡ record { key = get_or keys j 0; place = j } =
      λ d. get_or_default ys b.0 d _ b.1 ∙ b.2 in
      elim (cases_lt a.0 b.0) [
        | inl before ↦
            let next : b.0 - 1 + 1 ≡ b.0 = omega arith in
            record {
              at = b.0 - 1;
              within = omega (arith, b.1);
              equal = λ d.
                  let low = rw at_a at (far a.0 (b.0 - 1) d (omega arith) (omega (arith, b.1))).0 in
                  let high = rw at_b at (far (b.0 - 1) b.0 d (omega arith) b.1).0 in
                  rw (next, at_b) (omega arith);
              is = λ d. rw (next, at_b) refl;
            }
        | inr after ↦
            let d : Keyed = record { key = 0; place = 0 } in
            let back = rw (at_a, at_b) at (far b.0 a.0 d after a.1).1 in
            absurd (omega (arith, back (sym same)))
      ]

  -- a place right behind one with its key has its key before it
  stands_before : (place : ℕ) → FollowsEqual ys place
      → (place < length keys) × Contains (take place keys) (get_or keys place 0)
  stands_before place f =
      let d : Keyed = record { key = 0; place = 0 } in
      let within = f.within in
      let first = own f.at d (omega arith) in
      let second = own (f.at + 1) d within in
      let is = f.is d in
      let equal = f.equal d in
      let up = (far f.at (f.at + 1) d (omega arith) within).1 equal in
      let differ = apart f.at (f.at + 1) d (omega arith) within in
      let earlier : (get_or ys f.at d).place < place = omega arith in
      let inside : place < length keys = omega (arith, second.0) in
      let x = get_or keys place 0 in
      let same : get_or keys (get_or ys f.at d).place x ≡ x =
      get_or_default keys _ x 0 first.0 ∙ first.1 ∙ equal ∙ sym (rw is at second.1) in
      let stands : get_or (take place keys) (get_or ys f.at d).place x ≡ x =
      get_or-take place keys _ x earlier ∙ same in
      (inside, ((get_or ys f.at d).place, rw length-take (omega arith), stands))

  IsFirstRepeat-least : (place : ℕ) → FollowsEqual ys place
      → PrecedesWithin ys (length ys) (Some place) → IsFirstRepeat keys place
  IsFirstRepeat-least place f all =
      let here = stands_before place f in
      record {
        within = here.0;
        repeats = here.1;
        before = λ i j d lt within same.
            let short = simp length-take at within in
            let j_short : j < place = omega arith in
            let i_short : i < place = omega arith in
            let g = behind i j d lt (omega arith) (rw (get_or-take, get_or-take) at same) in
            let late = all g.at (record { key = 0; place = 0 }) g.within g.equal in
            let is = g.is (record { key = 0; place = 0 }) in
            absurd (omega arith);
      }

  pub first_from_least : (least : Option ℕ) → IfSome least (FollowsEqual ys)
      → PrecedesWithin ys (length ys) least → IfSome least (IsFirstRepeat keys)
  first_from_least None is all = tt
  first_from_least (Some place) is all = IsFirstRepeat-least place is all

  pub distinct_from_none : (least : Option ℕ) → PrecedesWithin ys (length ys) least
      → IfNone least (AreDistinct keys)
  distinct_from_none (Some place) all = tt
  distinct_from_none None all = λ i j d lt within same.
      let f = behind i j d lt within same in
      all f.at (record { key = 0; place = 0 }) f.within f.equal

-- ---- The loop over neighbours

-- the element at n stands right behind one with its key
follows_at : (ys : List Keyed) (n : ℕ) (d : Keyed) → 1 ≤ n → n < length ys
    → (get_or ys (n - 1) d).key ≡ (get_or ys n d).key → FollowsEqual ys (get_or ys n d).place
follows_at ys n d some within equal =
    let next : n - 1 + 1 ≡ n = omega arith in
    record {
      at = n - 1;
      within = omega arith;
      equal = λ e.
          rw (next, get_or_default ys (n - 1) e d (omega arith), get_or_default ys n e d within) equal;
      is = λ e. rw (next, get_or_default ys n e d within) refl;
    }

lesser_still : (least : Option ℕ) (x place : ℕ) → MatchOption least ⊥ (λ p. p ≤ place)
    → min (unwrap_or least x) x ≤ place
lesser_still None x place h = absurd h
lesser_still (Some p) x place h = omega arith

module _ (ys : List Keyed) (n : ℕ) (d : Keyed) (some : 1 ≤ n) (within : n < length ys) where
  pub then_follows : (least : Option ℕ) → (get_or ys (n - 1) d).key ≡ (get_or ys n d).key
      → IfSome least (FollowsEqual ys)
      → FollowsEqual ys (min (unwrap_or least (get_or ys n d).place) (get_or ys n d).place)
  then_follows None equal is =
      let e : min (get_or ys n d).place (get_or ys n d).place ≡ (get_or ys n d).place = omega arith in
      rw e (follows_at ys n d some within equal)
  then_follows (Some q) equal is = elim (cases_lt q (get_or ys n d).place) [
    | inl lt ↦ let e : min q (get_or ys n d).place ≡ q = omega arith in rw e is
    | inr ge ↦
        let e : min q (get_or ys n d).place ≡ (get_or ys n d).place = omega arith in
        rw e (follows_at ys n d some within equal)
  ]

  pub then_precedes : (least : Option ℕ) → PrecedesWithin ys n least
      → PrecedesWithin ys (n + 1) (Some (min (unwrap_or least (get_or ys n d).place) (get_or ys n d).place))
  then_precedes least all = λ k e below equal. elim (cases_lt (k + 1) n) [
    | inl lt ↦ lesser_still least _ _ (all k e lt equal)
    | inr ge ↦ let is : k + 1 ≡ n = omega arith in rw (is, get_or_default ys n e d within) (omega arith)
  ]

  pub else_precedes : (least : Option ℕ) → (get_or ys (n - 1) d).key ≢ (get_or ys n d).key
      → PrecedesWithin ys n least → PrecedesWithin ys (n + 1) least
  else_precedes least differ all = λ k e below equal. elim (cases_lt (k + 1) n) [
    | inl lt ↦ all k e lt equal
    | inr ge ↦
        let is : n - 1 ≡ k = omega arith in
        let is' : n ≡ k + 1 = omega arith in
        absurd (differ (rw (is, is') (equal d)))
  ]
