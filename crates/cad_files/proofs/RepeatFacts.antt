-- Sides that stand twice, or have a follower twice, by their keys.
use Rattle.std.proofs.Common.{◌≡◌, ◌≢◌, ℕ, ◌^◌, ◌+◌, ◌<◌, ◌≤◌, ◌⊎◌, inl, inr, refl, sym, ap, subst, ◌∙◌, List, [], ◌∷◌, length, map, take, min, Bool, true, false, ◌==◌, Option, Some, None, is_some, option_map, slice_get, get_or, set, arith}
use Rattle.std.specs.Prelude.{◌&&◌, ◌||◌, IfSome, IfNone, slice_index}
use Rattle.std.proofs.lemmas.Bool.{and_from, and_parts, cases_lt, eqb-true, eq-eqb, or_right}
use Rattle.std.proofs.lemmas.List.{get_or-take, get_or_default, length-take, length-map}
use Rattle.std.proofs.lemmas.Option.{slice_get-map, slice_get-get_or, slice_get_cases, slice_get_within, get_or_from_slice_get}
use Rattle.std.specs.List.{AllByRecursion, Contains}
use Rattle.cad_rings.specs.Cycle.{Side, is_side}
use Rattle.cad_rings.proofs.CallerLemmas.{is_side-same}
use Rattle.cad_map.specs.Valid.{EachPair}
use Rattle.cad_map.proofs.CallerLemmas.{AllPairs-from_EachPair, All-follows, All-at_each, Contains-at, list_any-Contains, list_any-none, is_side-refl}
use Rattle.sweep.specs.Repeats.{AreDistinct, IsFirstRepeat}
use Rattle.cad_files.specs.Cycles.{plan_side_of, followed_side, side_behind, AreLinked}
use Rattle.cad_files.specs.Corners.{NoneMet, IsFirstMet, key_of, lesser_of}
use Rattle.cad_files.specs.declared.sides.PlanSide.{PlanSide}
use Rattle.cad_files.proofs.NextSides.{next-side}
use Rattle.cad_files.proofs.PoolFacts.{stays-set, now-set}

-- ---- Keys

-- two small numbers are told by their key
key-tells : (a b : Side) → a.1 < 2 ^ 32 → b.1 < 2 ^ 32 → key_of a ≡ key_of b → a ≡ b
key-tells a b small too same =
    let first : a.0 ≡ b.0 = omega arith in
    let second : a.1 ≡ b.1 = omega arith in
    λ i. (first i, second i)

-- no two of the first n are equal
abbrev pub Differ : List ℕ → ℕ → Type 0
Differ keys n = (i j : ℕ) → i < j → j < n → get_or keys i 0 ≢ get_or keys j 0

differ-distinct : (keys : List ℕ) (n : ℕ) → n ≤ length keys → AreDistinct (take n keys) → Differ keys n
differ-distinct keys n within distinct i j below last same =
    let e = length-take n keys in
    distinct i j 0 below (omega arith) (get_or-take n keys i 0 (omega arith) ∙ same ∙ sym (get_or-take n keys j 0 last))

-- what a first repeat says by two places
record Repeats (keys : List ℕ) (k : ℕ) : Type 0 where
  within : k < length keys
  earlier : ℕ
  before : earlier < k
  same : get_or keys earlier 0 ≡ get_or keys k 0
  apart : Differ keys k

repeats-from : (keys : List ℕ) (k : ℕ) → IsFirstRepeat keys k → Repeats keys k
repeats-from keys k is =
    let at = is.repeats in
    let place : ℕ = at.0 in
    let there = at.1 in
    let e = length-take k keys in
    let within = is.within in
    let before : place < k = omega (arith, there, e, within) in
    record {
      within = is.within;
      earlier = place;
      before = before;
      same = get_or_default keys place 0 (slice_index keys k) (omega (arith, before, within)) ∙ sym (get_or-take k keys place (slice_index keys k) before) ∙ at.2;
      apart = differ-distinct keys k (omega (arith, within)) is.before;
    }

in_front : {X : Type 0} (xs : List X) (i k : ℕ) (x : X) → i < k → k < length xs → slice_get xs i ≡ Some x → Contains (take k xs) x
in_front xs i k x before past at =
    let e = length-take k xs in
    (i, omega (arith, e, before, past), get_or-take k xs i x before ∙ get_or_from_slice_get xs i x x at)

stood : {X : Type 0} (xs : List X) (k : ℕ) (x : X) → Contains (take k xs) x → (i : ℕ) × (i < k) × (slice_get xs i ≡ Some x)
stood xs k x among =
    let place : ℕ = among.0 in
    let inside = among.1 in
    let e = length-take k xs in
    let before : place < k = omega (arith, inside, e) in
    (place, before, slice_get-get_or xs place x (omega (arith, inside, e)) ∙ ap (λ (y : _). Some y) (sym (get_or-take k xs place x before) ∙ among.2))

-- what is told where there is none, if there is none
pub none-told : {X : Type 0} (o : Option X) (P : Type 0) → is_some o ≡ false → IfNone o P → P
none-told None P none told = told
none-told (Some x) P none told = cc

-- ---- Places that are marked

module _ (nexts : List ℕ) (flags : List Bool) (n : ℕ) where
  -- each of the first n leads to a mark
  abbrev AreMarked : List Bool → ℕ → Type 0
  AreMarked flags n = (k : ℕ) → k < n → slice_get flags (get_or nexts k 0) ≡ Some true

  pub mark-next : get_or nexts n 0 < length flags → AreMarked flags n → AreMarked (set flags (get_or nexts n 0) true) (n + 1)
  mark-next within marked k below = by (cases_lt k n)
    where
      by : (k < n) ⊎ (n ≤ k) → slice_get (set flags (get_or nexts n 0) true) (get_or nexts k 0) ≡ Some true
      by (inl lt) = stays-set flags (get_or nexts n 0) (get_or nexts k 0) (marked k lt)
      by (inr most) =
          let is : n ≡ k = omega (arith, below, most) in
          ap (λ (m : ℕ). slice_get (set flags (get_or nexts n 0) true) (get_or nexts m 0)) (sym is) ∙ now-set flags (get_or nexts n 0) within

  -- one that leads to no mark differs from those before it
  pub differ-next : slice_get flags (get_or nexts n 0) ≡ Some false → AreMarked flags n → Differ nexts n → Differ nexts (n + 1)
  differ-next free marked apart i j below last same = by (cases_lt j n)
    where
      by : (j < n) ⊎ (n ≤ j) → ⊥
      by (inl lt) = apart i j below lt same
      by (inr most) =
          let is : j ≡ n = omega (arith, last, most) in
          let set_there : slice_get flags (get_or nexts n 0) ≡ Some true = ap (slice_get flags) (sym (same ∙ ap (λ m. get_or nexts m 0) is)) ∙ marked i (omega (arith, below, is)) in
          let no : Some false ≡ Some true = sym free ∙ set_there in
          cc

pub differ-all : (nexts : List ℕ) (n : ℕ) → length nexts ≤ n → Differ nexts n → AreDistinct nexts
differ-all nexts n most apart i j d below within same =
    apart i j below (omega (arith, most, within))
    (get_or_default nexts i 0 d (omega (arith, below, within)) ∙ same ∙ sym (get_or_default nexts j 0 d within))

found : (sides : List PlanSide) (i : ℕ) → i < length sides → (s : PlanSide) × (slice_get sides i ≡ Some s)
found sides i below = by (slice_get_cases sides i).1
  where
    by : ((x : PlanSide) × (i < length sides) × (slice_get sides i ≡ Some x) × (get_or sides i x ≡ x)) ⊎ ((length sides ≤ i) × (slice_get sides i ≡ None)) → (s : PlanSide) × (slice_get sides i ≡ Some s)
    by (inl h) = (h.0, h.2)
    by (inr h) = let past = h.0 in absurd (omega (arith, past, below))

pub value-at : {Y : Type 0} (f : PlanSide → Y) (sides : List PlanSide) (i : ℕ) (s : PlanSide) (d : Y) → slice_get sides i ≡ Some s → get_or (map f sides) i d ≡ f s
value-at f sides i s d at = get_or_from_slice_get (map f sides) i (f s) d (slice_get-map f sides i ∙ ap (option_map f) at)

pub next-at : (sides : List PlanSide) (i : ℕ) (s : PlanSide) → slice_get sides i ≡ Some s → get_or (map (λ s. s.next) sides) i 0 ≡ s.next
next-at sides i s at = value-at (λ s. s.next) sides i s 0 at

-- ---- Keys of sides

module _ (key : PlanSide → Side) (sides : List PlanSide) (small : AllByRecursion (λ s. (key s).1 < 2 ^ 32) sides) where
  abbrev keys : List ℕ
  keys = map (λ s. key_of (key s)) sides

  key-at : (i : ℕ) (s : PlanSide) → slice_get sides i ≡ Some s → get_or keys i 0 ≡ key_of (key s)
  key-at i s at = value-at (λ s. key_of (key s)) sides i s 0 at

  -- two sides with one key have the same points
  same-key : (i j : ℕ) (s t : PlanSide) → slice_get sides i ≡ Some s → slice_get sides j ≡ Some t → get_or keys i 0 ≡ get_or keys j 0 → key s ≡ key t
  same-key i j s t at to same =
      key-tells (key s) (key t) (All-at_each (λ s. (key s).1 < 2 ^ 32) sides s small (Contains-at sides i s at)) (All-at_each (λ s. (key s).1 < 2 ^ 32) sides t small (Contains-at sides j t to))
      (sym (key-at i s at) ∙ same ∙ key-at j t to)

  -- the side that has the key of a side before it, and that side
  record Twin (k : ℕ) : Type 0 where
    first : PlanSide
    second : PlanSide
    among : Contains (take k sides) first
    there : slice_get sides k ≡ Some second
    same : key first ≡ key second

  twin-from : (k : ℕ) → Repeats keys k → Twin k
  twin-from k r =
      let count = length-map sides (λ s. key_of (key s)) in
      let within = r.within in
      let before = r.before in
      let past : k < length sides = omega (arith, count, within) in
      let first = found sides r.earlier (omega (arith, past, before)) in
      let second = found sides k past in
      record {
        first = first.0;
        second = second.0;
        among = in_front sides r.earlier k first.0 before past first.1;
        there = second.1;
        same = same-key r.earlier k first.0 second.0 first.1 second.1 r.same;
      }

  -- a side before k has another key than the one at k
  other-key : (n k : ℕ) (s t : PlanSide) → Differ keys n → k < n → slice_get sides k ≡ Some t → Contains (take k sides) s → key s ≢ key t
  other-key n k s t apart below at among same =
      let place = stood sides k s among in
      apart place.0 k place.1 below (key-at place.0 s place.2 ∙ ap key_of same ∙ sym (key-at k t at))

or-none : (a b : Bool) → (a ≡ true → ⊥) → (b ≡ true → ⊥) → (a || b) ≡ false
or-none true b first second = absurd (first refl)
or-none false true first second = absurd (second refl)
or-none false false first second = refl

-- ---- Sides that are met

abbrev meets : PlanSide → PlanSide → Bool
meets s f = is_side (plan_side_of s) (plan_side_of f) || ((f.to == s.to) && (f.after == s.after))

module _ (sides : List PlanSide) (small : AllByRecursion (λ s. (s.from < 2 ^ 32) × (s.to < 2 ^ 32)) sides) (near : AllByRecursion (λ s. (s.to < 2 ^ 32) × (s.after < 2 ^ 32)) sides) where
  abbrev as_side : List ℕ
  as_side = map (λ s. key_of (s.from, s.to)) sides

  abbrev by_follower : List ℕ
  by_follower = map (λ s. key_of (s.to, s.after)) sides

  small_ends : AllByRecursion (λ s. s.to < 2 ^ 32) sides
  small_ends = All-follows (λ s. (s.from < 2 ^ 32) × (s.to < 2 ^ 32)) (λ s. s.to < 2 ^ 32) (λ s both. both.1) sides small

  small_afters : AllByRecursion (λ s. s.after < 2 ^ 32) sides
  small_afters = All-follows (λ s. (s.to < 2 ^ 32) × (s.after < 2 ^ 32)) (λ s. s.after < 2 ^ 32) (λ s both. both.1) sides near

  -- a side that meets an earlier one, where none before it does, is the first that does
  first-met : (k : ℕ) (first second : PlanSide) → Contains (take k sides) first → slice_get sides k ≡ Some second → meets second first ≡ true → NoneMet sides k → IsFirstMet sides k
  first-met k first second among there met before = record { side = second; there = there; met = list_any-Contains (meets second) (take k sides) first among met; before = before }

  met-as_side : (k : ℕ) → Repeats as_side k → (NoneMet sides k) → IsFirstMet sides k
  met-as_side k r =
      let t = twin-from (λ s. (s.from, s.to)) sides small_ends k r in
      first-met k t.first t.second t.among t.there
      (ap (λ (v : Side). is_side v (plan_side_of t.first) || ((t.first.to == t.second.to) && (t.first.after == t.second.after))) (sym t.same)
      ∙ ap (λ (b : Bool). b || ((t.first.to == t.second.to) && (t.first.after == t.second.after))) (is_side-refl (plan_side_of t.first)))

  met-by_follower : (k : ℕ) → Repeats by_follower k → (NoneMet sides k) → IsFirstMet sides k
  met-by_follower k r =
      let t = twin-from (λ s. (s.to, s.after)) sides small_afters k r in
      first-met k t.first t.second t.among t.there
      (or_right (is_side (plan_side_of t.second) (plan_side_of t.first)) _
      (and_from (t.first.to == t.second.to) (t.first.after == t.second.after) (eq-eqb t.first.to t.second.to (ap (λ (v : Side). v.0) t.same)) (eq-eqb t.first.after t.second.after (ap (λ (v : Side). v.1) t.same))))

  none-met : (n : ℕ) → Differ as_side n → Differ by_follower n → NoneMet sides n
  none-met n apart others k s below at = list_any-none (meets s) (take k sides) (λ f among.
      or-none (is_side (plan_side_of s) (plan_side_of f)) ((f.to == s.to) && (f.after == s.after))
      (λ is. other-key (λ s. (s.from, s.to)) sides small_ends n k f s apart below at among (sym (is_side-same (plan_side_of s) (plan_side_of f) is)))
      (λ is. let parts = and_parts (f.to == s.to) (f.after == s.after) is in
      other-key (λ s. (s.to, s.after)) sides small_afters n k f s others below at among (λ i. (eqb-true f.to s.to parts.0 i, eqb-true f.after s.after parts.1 i))))

  fewer : (keys : List ℕ) (n k : ℕ) → k ≤ n → Differ keys n → Differ keys k
  fewer keys n k few apart i j below last = apart i j below (omega (arith, last, few))

  all-differ : (keys : List ℕ) (n : ℕ) → n ≡ length keys → AreDistinct keys → Differ keys n
  all-differ keys n is distinct i j below last = distinct i j 0 below (omega (arith, last, is))

  pub met-lesser : (a b : Option ℕ) → IfSome a (IsFirstRepeat as_side) → IfNone a (AreDistinct as_side) → IfSome b (IsFirstRepeat by_follower) → IfNone b (AreDistinct by_follower)
      → IfSome (lesser_of a b) (IsFirstMet sides)
  met-lesser None None a none b nobody = tt
  met-lesser None (Some q) a none b nobody =
      let r = repeats-from by_follower q b in
      let inside = r.within in
      let count = length-map sides (λ s. key_of (s.to, s.after)) in
      let long = length-map sides (λ s. key_of (s.from, s.to)) in
      met-by_follower q r (none-met q (fewer as_side (length as_side) q (omega (arith, inside, count, long)) (all-differ as_side (length as_side) refl none)) r.apart)
  met-lesser (Some p) None a none b nobody =
      let r = repeats-from as_side p a in
      let inside = r.within in
      let count = length-map sides (λ s. key_of (s.to, s.after)) in
      let long = length-map sides (λ s. key_of (s.from, s.to)) in
      met-as_side p r (none-met p r.apart (fewer by_follower (length by_follower) p (omega (arith, inside, count, long)) (all-differ by_follower (length by_follower) refl nobody)))
  met-lesser (Some p) (Some q) a none b nobody =
      let r = repeats-from as_side p a in
      let u = repeats-from by_follower q b in
      by r u (cases_lt q p)
    where
      by : Repeats as_side p → Repeats by_follower q → (q < p) ⊎ (p ≤ q) → IsFirstMet sides (min p q)
      by r u (inl less) =
          let is : q ≡ min p q = omega (arith, less) in
          subst (IsFirstMet sides) is (met-by_follower q u (none-met q (fewer as_side p q (omega (arith, less)) r.apart) u.apart))
      by r u (inr few) =
          let is : p ≡ min p q = omega (arith, few) in
          subst (IsFirstMet sides) is (met-as_side p r (none-met p r.apart (fewer by_follower q p few u.apart)))

  pub none-lesser : (a b : Option ℕ) → IfNone a (AreDistinct as_side) → IfNone b (AreDistinct by_follower) → IfNone (lesser_of a b) (NoneMet sides (length sides))
  none-lesser None None none nobody =
      none-met (length sides) (all-differ as_side (length sides) (sym (length-map sides (λ s. key_of (s.from, s.to)))) none)
      (all-differ by_follower (length sides) (sym (length-map sides (λ s. key_of (s.to, s.after)))) nobody)
  none-lesser None (Some q) none nobody = tt
  none-lesser (Some p) None none nobody = tt
  none-lesser (Some p) (Some q) none nobody = tt

-- ---- Sides that go on to another each

-- where no two have one key, no two are equal
pub keys-apart : {X Y : Type 0} (f : X → Y) (key : Y → ℕ) (xs : List X) → EachPair (λ a b. a ≢ b) (map (λ x. key (f x)) xs) → EachPair (λ a b. a ≢ b) (map f xs)
keys-apart f key [] apart = tt
keys-apart f key (x ∷ xs) apart = (others xs apart.0, keys-apart f key xs apart.1)
  where
    others : (ys : List _) → AllByRecursion (λ b. key (f x) ≢ b) (map (λ x. key (f x)) ys) → AllByRecursion (λ b. f x ≢ b) (map f ys)
    others [] all = tt
    others (y ∷ ys) all = ((λ e. all.0 (ap key e)), others ys all.1)

module _ (sides : List PlanSide) (once : EachPair (λ a b. a ≢ b) (map plan_side_of sides)) where
  earlier : (i j : ℕ) (s t : PlanSide) → i < j → slice_get sides i ≡ Some s → slice_get sides j ≡ Some t → plan_side_of s ≢ plan_side_of t
  earlier i j s t below at to same =
      let within = slice_get_within sides j t to in
      let count = length-map sides plan_side_of in
      AllPairs-from_EachPair (λ a b. a ≢ b) (map plan_side_of sides) once i j (plan_side_of s) below (omega (arith, within, count))
      (value-at plan_side_of sides i s (plan_side_of s) at ∙ same ∙ sym (value-at plan_side_of sides j t (plan_side_of s) to))

  -- two places with equal sides are one
  one-place : (i j : ℕ) (s t : PlanSide) → slice_get sides i ≡ Some s → slice_get sides j ≡ Some t → plan_side_of s ≡ plan_side_of t → i ≡ j
  one-place i j s t at to same = elim (cases_lt i j) [
    | inl less ↦ absurd (earlier i j s t less at to same)
    | inr most ↦ elim (cases_lt j i) [
      | inl less ↦ absurd (earlier j i t s less to at (sym same))
      | inr few ↦ omega arith
    ]
  ]

  -- none is met where they are linked, and no two go on to the same one
  pub none-met_once : AreLinked sides → AreDistinct (map (λ s. s.next) sides) → NoneMet sides (length sides)
  none-met_once linked others k s below at = list_any-none (meets s) (take k sides) (λ f among.
      let earlier_place = stood sides k f among in
      let place : ℕ = earlier_place.0 in
      let before : place < k = earlier_place.1 in
      let is : slice_get sides place ≡ Some f = earlier_place.2 in
      or-none (is_side (plan_side_of s) (plan_side_of f)) ((f.to == s.to) && (f.after == s.after))
      (λ same. let one = one-place place k f s is at (sym (is_side-same (plan_side_of s) (plan_side_of f) same)) in omega arith)
      (λ met.
      let parts = and_parts (f.to == s.to) (f.after == s.after) met in
      let on = next-side sides linked f (Contains-at sides place f is) in
      let too = next-side sides linked s (Contains-at sides k s at) in
      let behind : side_behind (followed_side f) ≡ side_behind (followed_side s) = λ i. (eqb-true f.to s.to parts.0 i, eqb-true f.after s.after parts.1 i) in
      let one = one-place f.next s.next on.next too.next on.at too.at (on.behind ∙ behind ∙ sym too.behind) in
      let count = length-map sides (λ s. s.next) in
      others place k 0 before (omega (arith, below, count)) (value-at (λ s. s.next) sides place f 0 is ∙ one ∙ sym (value-at (λ s. s.next) sides k s 0 at))))
