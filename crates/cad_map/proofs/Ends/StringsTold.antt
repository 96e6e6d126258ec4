-- The strings of a point as a view tells them, one after another.
use Rattle.std.proofs.Common.{◌≡◌, ◌≢◌, ◌⊎◌, inl, inr, ◌<◌, ◌≤◌, ℕ, zero, suc, refl, sym, ap, subst, ◌∙◌, arith, List, [], ◌∷◌, length, take, map, Option, Some, None, Bool, true, false}
use Rattle.std.specs.Borrow.{Bor}
use Rattle.std.specs.Prelude.{IsSome, IsPermutation, slice_get, nat_lt, option_map}
use Rattle.std.specs.List.{Contains}
use Rattle.std.specs.Option.{option_copied}
use Rattle.std.proofs.lemmas.List.{take_all, length-map}
use Rattle.std.proofs.lemmas.List.Sorted.{IsPermutation-refl, IsPermutation-sym, length_permutation, Contains-permutation}
use Rattle.std.proofs.lemmas.Bool.Decides.{nat_tests}
use Rattle.cad_rows.specs.declared.rows.StringRow.{StringRow}
use Rattle.cad_map.specs.Changes.{by_number}
use Rattle.cad_map.specs.Map.{Map, is_end, degree, string_of, strings_at}
use Rattle.cad_map.specs.Valid.{EachPair, IsValid}
use Rattle.cad_map.proofs.Lists.EachElement.{EachPair-filter-map}
use Rattle.cad_map.proofs.Lists.Elements.{Contains-cases, Contains-first, Contains-later}
use Rattle.cad_map.proofs.Lists.ElementFacts.{filter-Contains}
use Rattle.cad_map.proofs.Boundaries.FacesBeside.{row-found}
use Rattle.cad_map.proofs.Edits.KeptJoin.{meet-at}

-- ---- What is lent from a list

module _ {X : Type 0} where
  pub lent-some : (o : Option (Bor X)) (xs : List X) (i : ℕ) → option_copied o ≡ slice_get xs i → i < length xs → IsSome o
  lent-some None [] i is low = absurd (omega arith)
  lent-some None (x ∷ xs) zero is low = cc
  lent-some None (x ∷ xs) (suc i) is low = lent-some None xs i is (omega arith)
  lent-some (Some r) xs i is low = refl

  pub lent-is : (o : Option (Bor X)) (r : Bor X) (xs : List X) (i : ℕ) → option_copied o ≡ slice_get xs i → o ≡ Some r → slice_get xs i ≡ Some r.now
  lent-is o r xs i is at = sym is ∙ ap option_copied at

  -- an element stands at each place before the end
  pub told-there : (xs : List X) (i : ℕ) → i < length xs → (x : X) × (slice_get xs i ≡ Some x)
  told-there [] i low = absurd (omega arith)
  told-there (x ∷ xs) zero low = (x, refl)
  told-there (x ∷ xs) (suc i) low = told-there xs i (omega arith)

-- ---- What is told of the elements of a list

module _ {X Y : Type 0} (f : X → Y) where
  pub told-some : (o : Option Y) (xs : List X) (i : ℕ) → o ≡ option_map f (slice_get xs i) → i < length xs → IsSome o
  told-some o [] i is low = absurd (omega arith)
  told-some o (x ∷ xs) zero is low = rw is refl
  told-some o (x ∷ xs) (suc i) is low = told-some o xs i is (omega arith)

  pub told-is : (o : Option Y) (y : Y) (xs : List X) (i : ℕ) → o ≡ option_map f (slice_get xs i) → o ≡ Some y → (x : X) × (slice_get xs i ≡ Some x) × (f x ≡ y)
  told-is o y xs i is at = by (slice_get xs i) refl (sym at ∙ is)
    where
      by : (e : Option X) → slice_get xs i ≡ e → Some y ≡ option_map f e → (x : X) × (slice_get xs i ≡ Some x) × (f x ≡ y)
      by None there same = cc
      by (Some x) there same = let told : f x ≡ y = cc in (x, there, told)

-- ---- All strings of a point

-- once the last was told, all were told
pub all-told : (m : Map) (p : ℕ) (strings : List StringRow) (place : ℕ) → length (strings_at m p) ≤ place → (0 < place → IsPermutation (strings_at m p) strings)
    → IsPermutation (strings_at m p) (take place strings)
all-told m p strings zero past each = none (strings_at m p) past
  where
    none : (xs : List StringRow) → length xs ≤ 0 → IsPermutation xs []
    none [] few = IsPermutation-refl []
    none (x ∷ xs) few = absurd (omega arith)
all-told m p strings (suc n) past each =
    let all = each (omega arith) in
    let same = length_permutation (strings_at m p) strings all in
    subst (IsPermutation (strings_at m p)) (sym (take_all (suc n) strings (omega (arith, same, past)))) all

-- ---- Two strings at a point

-- which of two it is
in_two : (a b c : StringRow) → Contains (a ∷ b ∷ []) c → (a ≡ c) ⊎ (b ≡ c)
in_two a b c h = elim (Contains-cases a (b ∷ []) c h) [
  | inl same ↦ inl same
  | inr later ↦ elim (Contains-cases b [] c later) [ inl same ↦ inr same | inr none ↦ let low = none.1 in absurd (omega arith) ]
]

-- two strings have one order by their numbers, however they stand
in_order : (x y : StringRow) → x.number ≢ y.number → by_number (y ∷ x ∷ []) ≡ by_number (x ∷ y ∷ [])
in_order x y apart = by (nat_lt y.number x.number) refl (nat_lt x.number y.number) refl
  where
    by : (p : Bool) → nat_lt y.number x.number ≡ p → (q : Bool) → nat_lt x.number y.number ≡ q → by_number (y ∷ x ∷ []) ≡ by_number (x ∷ y ∷ [])
    by true is true it = absurd (grind (arith, nat_tests, is, it))
    by true is false it = rw (is, it) refl
    by false is true it = rw (is, it) refl
    by false is false it = absurd (apart (grind (arith, nat_tests, is, it)))

-- two numbers are those of two strings
two-numbered : (rows : List StringRow) (a b : ℕ) → map (λ (r : StringRow). r.number) (by_number rows) ≡ a ∷ b ∷ [] → length rows ≡ 2
two-numbered [] a b is = cc
two-numbered (x ∷ []) a b is = cc
two-numbered (x ∷ y ∷ rows) a b is = by (nat_lt y.number x.number) refl
  where
    number : StringRow → ℕ
    number r = r.number

    by : (p : Bool) → nat_lt y.number x.number ≡ p → length (x ∷ y ∷ rows) ≡ 2
    by true it = let n = ap length (rw it at is) in let k = length-map rows number in omega (arith, n, k)
    by false it = let n = ap length (rw it at is) in let k = length-map rows number in omega (arith, n, k)

module _ (m : Map) (valid : IsValid m) (p : ℕ) where
  apart-at : EachPair (λ a b. a ≢ b) (map (λ (r : StringRow). r.number) (strings_at m p))
  apart-at = EachPair-filter-map (λ a b. a ≢ b) (λ (r : StringRow). r.number) (λ s. is_end s p) m.strings valid.sound.v1.strings.distinct

  -- the two that are told are the two at the point
  pub two-told : (strings : List StringRow) → IsPermutation (strings_at m p) strings → degree m p ≡ 2 → (s t : StringRow) → slice_get strings 0 ≡ Some s → slice_get strings 1 ≡ Some t
      → by_number (s ∷ t ∷ []) ≡ by_number (strings_at m p)
  two-told strings each two s t at_first at_second = by (strings_at m p) strings two apart-at each at_first at_second
    where
      two_by_two : (x y u v : StringRow) → x.number ≢ y.number → IsPermutation (x ∷ y ∷ []) (u ∷ v ∷ []) → by_number (u ∷ v ∷ []) ≡ by_number (x ∷ y ∷ [])
      two_by_two x y u v apart each =
          let back = IsPermutation-sym (x ∷ y ∷ []) (u ∷ v ∷ []) each in
          let is_u = in_two x y u (Contains-permutation (u ∷ v ∷ []) (x ∷ y ∷ []) u back (Contains-first u (v ∷ []))) in
          let is_v = in_two x y v (Contains-permutation (u ∷ v ∷ []) (x ∷ y ∷ []) v back (Contains-later u (v ∷ []) v (Contains-first v []))) in
          let is_x = in_two u v x (Contains-permutation (x ∷ y ∷ []) (u ∷ v ∷ []) x each (Contains-first x (y ∷ []))) in
          let is_y = in_two u v y (Contains-permutation (x ∷ y ∷ []) (u ∷ v ∷ []) y each (Contains-later x (y ∷ []) y (Contains-first y []))) in
          go is_u is_v is_x is_y
        where
          number : StringRow → ℕ
          number r = r.number

          go : (x ≡ u) ⊎ (y ≡ u) → (x ≡ v) ⊎ (y ≡ v) → (u ≡ x) ⊎ (v ≡ x) → (u ≡ y) ⊎ (v ≡ y) → by_number (u ∷ v ∷ []) ≡ by_number (x ∷ y ∷ [])
          go (inl xu) (inr yv) a b = λ i. by_number (sym xu i ∷ sym yv i ∷ [])
          go (inr yu) (inl xv) a b = (λ i. by_number (sym yu i ∷ sym xv i ∷ [])) ∙ in_order x y apart
          go (inl xu) (inl xv) a (inl uy) = absurd (apart (ap number (xu ∙ uy)))
          go (inl xu) (inl xv) a (inr vy) = absurd (apart (ap number (xv ∙ vy)))
          go (inr yu) (inr yv) (inl ux) b = absurd (apart (sym (ap number (yu ∙ ux))))
          go (inr yu) (inr yv) (inr vx) b = absurd (apart (sym (ap number (yv ∙ vx))))

      by : (rows told : List StringRow) → length rows ≡ 2 → EachPair (λ a b. a ≢ b) (map (λ (r : StringRow). r.number) rows) → IsPermutation rows told → slice_get told 0 ≡ Some s → slice_get told 1 ≡ Some t
          → by_number (s ∷ t ∷ []) ≡ by_number rows
      by [] told few apart each at_0 at_1 = absurd (omega (arith, few))
      by (x ∷ []) told few apart each at_0 at_1 = absurd (omega (arith, few))
      by (x ∷ y ∷ z ∷ rows) told few apart each at_0 at_1 = absurd (omega (arith, few))
      by (x ∷ y ∷ []) [] few apart each at_0 at_1 = cc
      by (x ∷ y ∷ []) (u ∷ []) few apart each at_0 at_1 = cc
      by (x ∷ y ∷ []) (u ∷ v ∷ []) few apart each at_0 at_1 =
          let us : u ≡ s = cc in
          let vt : v ≡ t = cc in
          (λ i. by_number (sym us i ∷ sym vt i ∷ [])) ∙ two_by_two x y u v apart.0.0 each
      by (x ∷ y ∷ []) (u ∷ v ∷ w ∷ told) few apart each at_0 at_1 =
          let same = length_permutation (x ∷ y ∷ []) (u ∷ v ∷ w ∷ told) each in absurd (omega (arith, same))

  -- and they are found by their numbers
  pub strings-found : (a b : ℕ) → map (λ (r : StringRow). r.number) (by_number (strings_at m p)) ≡ a ∷ b ∷ []
      → (s : StringRow) × (t : StringRow) × (by_number (strings_at m p) ≡ s ∷ t ∷ []) × (string_of m a ≡ Some s) × (string_of m b ≡ Some t)
  strings-found a b numbers =
      let met = meet-at m p (two-numbered (strings_at m p) a b numbers) in
      let s = met.first in
      let t = met.second in
      let back = IsPermutation-sym (strings_at m p) (s ∷ t ∷ []) met.at in
      let is : s.number ∷ t.number ∷ [] ≡ a ∷ b ∷ [] = sym (ap (map (λ (r : StringRow). r.number)) met.are) ∙ numbers in
      let sa : s.number ≡ a = cc in
      let tb : t.number ≡ b = cc in
      let s_in = (filter-Contains (λ r. is_end r p) m.strings s (Contains-permutation (s ∷ t ∷ []) (strings_at m p) s back (Contains-first s (t ∷ [])))).0 in
      let t_in = (filter-Contains (λ r. is_end r p) m.strings t (Contains-permutation (s ∷ t ∷ []) (strings_at m p) t back (Contains-later s (t ∷ []) t (Contains-first t [])))).0 in (
        s,
        t,
        met.are,
        ap (string_of m) (sym sa) ∙ row-found m.strings s valid.sound.v1.strings.distinct s_in,
        ap (string_of m) (sym tb) ∙ row-found m.strings t valid.sound.v1.strings.distinct t_in,
      )
