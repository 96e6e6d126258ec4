-- The elements with one key in a list sorted by keys: a run between two partition points.
use Rattle.std.proofs.Common.{◌≡◌, ◌∙◌, ℕ, suc, ◌+◌, ◌-◌, ◌<◌, ◌≤◌, Bool, true, false, List, [], ◌∷◌, ◌++◌, length, get_or, take, drop, refl, ap, sym, inl, inr, ltb, leb, eqb, arith}
use Rattle.std.specs.Prelude.{◌==◌, filter, slice_range}
use Rattle.std.specs.List.{All, AllWithin}
use Rattle.std.specs.List.Sorted.{IsPartitionPoint}
use Rattle.std.proofs.lemmas.Bool.{cases_lt}
use Rattle.std.proofs.lemmas.Bool.Decides.{nat_tests}
use Rattle.std.proofs.lemmas.List.{take-append-drop, get_or-take, get_or-drop, length-take, length-drop, append-nil}
use Rattle.std.proofs.lemmas.List.Elements.{filter-append}

module _ {X : Type 0} (p : X → Bool) where
  pub filter_none : (xs : List X) → All (λ x. p x ≡ false) xs → filter p xs ≡ []
  filter_none [] none = refl
  filter_none (x ∷ xs) none =
      rw (none 0 x (omega arith)) (filter_none xs (λ k d within. none (suc k) d (omega arith)))

  pub filter_whole : (xs : List X) → All (λ x. p x ≡ true) xs → filter p xs ≡ xs
  filter_whole [] all = refl
  filter_whole (x ∷ xs) all =
      rw (all 0 x (omega arith)) (ap (λ l. x ∷ l) (filter_whole xs (λ k d within. all (suc k) d (omega arith))))

  -- what passes stands between two places, and nothing else there
  pub filter-run : (xs : List X) (low high : ℕ) → low ≤ high → high ≤ length xs
      → AllWithin (λ x. p x ≡ false) xs 0 low → AllWithin (λ x. p x ≡ true) xs low high
      → AllWithin (λ x. p x ≡ false) xs high (length xs) → filter p xs ≡ slice_range xs low high
  filter-run xs low high up within before run after =
      let rest : List X = drop low xs in
      let mid : List X = take (high - low) rest in
      let last : List X = drop (high - low) rest in
      let front_none : filter p (take low xs) ≡ [] = filter_none (take low xs) (λ k d inside.
      let short = simp length-take at inside in
      let k_short : k < low = omega arith in
      rw (get_or-take low xs k d k_short) (before k d (omega arith) k_short)) in
      let mid_whole : filter p mid ≡ mid = filter_whole mid (λ k d inside.
      let short = simp (length-take, length-drop) at inside in
      let k_short : k < high - low = omega arith in
      rw (get_or-take (high - low) rest k d k_short, get_or-drop low xs k d)
      (run (low + k) d (omega arith) (omega arith))) in
      let last_none : filter p last ≡ [] = filter_none last (λ k d inside.
      let short = simp (length-drop, length-drop) at inside in
      rw (get_or-drop (high - low) rest k d, get_or-drop low xs (high - low + k) d)
      (after (low + (high - low + k)) d (omega arith) (omega arith))) in
      let at_low : filter p xs ≡ filter p rest =
      ap (filter p) (sym (take-append-drop low xs)) ∙ filter-append p (take low xs) rest ∙ ap (λ l. l ++ filter p rest) front_none in
      let at_high : filter p rest ≡ mid ++ [] =
      ap (filter p) (sym (take-append-drop (high - low) rest)) ∙ filter-append p mid last ∙
      ap (λ l. l ++ filter p last) mid_whole ∙ ap (λ l. mid ++ l) last_none in
      at_low ∙ at_high ∙ append-nil mid

-- where the keys below k end, and where those up to k end
pub record AreBounds {X : Type 0} (key : X → ℕ) (xs : List X) (k low high : ℕ) : Type 0 where
  pub low_within : low ≤ length xs
  pub high_within : high ≤ length xs
  pub below : IsPartitionPoint (λ x. ltb (key x) k ≡ true) (λ x. ltb (key x) k ≡ false) xs low
  pub up_to : IsPartitionPoint (λ x. leb (key x) k ≡ true) (λ x. leb (key x) k ≡ false) xs high

not_both : (m k : ℕ) → leb m k ≡ false → ltb m k ≡ true → ⊥
not_both m k over under = grind (arith, nat_tests)

no_less : (m k : ℕ) → ltb m k ≡ true → eqb m k ≡ false
no_less m k under = grind (arith, nat_tests)

up_to_less : (m k : ℕ) → ltb m k ≡ true → leb m k ≡ true
up_to_less m k under = grind (arith, nat_tests)

no_more : (m k : ℕ) → leb m k ≡ false → eqb m k ≡ false
no_more m k over = grind (arith, nat_tests)

neither : (m k : ℕ) → ltb m k ≡ false → leb m k ≡ true → eqb m k ≡ true
neither m k least most = grind (arith, nat_tests)

-- the run may be empty, and ends no earlier than it begins
pub bounds_rise : {X : Type 0} (key : X → ℕ) (xs : List X) (k low high : ℕ) → AreBounds key xs k low high → low ≤ high
bounds_rise key [] k low high b = omega (arith, b.low_within)
bounds_rise key (x ∷ xs) k low high b = elim (cases_lt high low) [
  | inl lt ↦
      absurd (not_both _ k (b.up_to.1 high x (omega arith) (omega (arith, b.low_within)))
      (b.below.0 high x (omega arith) lt))
  | inr ge ↦ ge
]

pub filter-bounds : {X : Type 0} (key : X → ℕ) (xs : List X) (k low high : ℕ)
    → AreBounds key xs k low high → filter (λ x. key x == k) xs ≡ slice_range xs low high
filter-bounds key xs k low high b =
    filter-run (λ x. key x == k) xs low high (bounds_rise key xs k low high b) b.high_within
    (λ i d from to. no_less (key (get_or xs i d)) k (b.below.0 i d from to))
    (λ i d from to. neither (key (get_or xs i d)) k
    (b.below.1 i d from (omega (arith, b.high_within))) (b.up_to.0 i d (omega arith) to))
    (λ i d from to. no_more (key (get_or xs i d)) k (b.up_to.1 i d from to))
