-- The strings of two maps of which one has a point between two others, in one table.
use Rattle.std.proofs.Common.{◌≡◌, ℕ, refl, sym, ap, ◌∙◌, List, [], ◌∷◌, Bool, true, false, ◌==◌, ◌||◌, if◌then◌else◌, true≢false, nat_eq}
use Rattle.std.specs.Prelude.{is_some, IsPermutation}
use Rattle.std.specs.List.{IsDistinct}
use Rattle.std.proofs.lemmas.Bool.{eqb-true, false_from_ne_true}
use Rattle.std.proofs.lemmas.Cmp.{nat_eq_equiv}
use Rattle.std.proofs.lemmas.List.Sorted.{Contains-permutation, IsPermutation-sym}
use Rattle.cad_rows.specs.declared.rows.StringRow.{StringRow}
use Rattle.cad_map.specs.Map.{Map, has_string}
use Rattle.numbered_rows.specs.Rows.{row_with}
use Rattle.half_table.specs.declared.half.Half.{Half}
use Rattle.half_table.specs.Rows.{HalfRows, has}
use Rattle.half_table.proofs.Loose.{nat_eq-symm}
use Rattle.half_paths.specs.Loose.{is_of}
use Rattle.half_paths.specs.Path.{AreIn, AreDifferent, strings_of}
use Rattle.cad_laws.specs.Local.{IsShown}
use Rattle.map_parts.specs.Passing.{HasBetween}
use Rattle.map_parts.specs.declared.edits.passing.Passing.{Passing}
use Rattle.map_parts.proofs.PartsRings.{found-row, row-there}
use Rattle.map_parts.proofs.Passing.Between as between

-- ---- Whether a row is among these

abbrev is_row : ℕ → List StringRow → Bool
is_row n strings = is_some (row_with (λ (s : StringRow). s.number) n strings)

both-ways : (b c : Bool) → (b ≡ true → c ≡ true) → (c ≡ true → b ≡ true) → b ≡ c
both-ways true c forth back = sym (forth refl)
both-ways false true forth back = back refl
both-ways false false forth back = refl

row-permuted : (n : ℕ) (xs ys : List StringRow) → IsPermutation xs ys → is_row n xs ≡ true → is_row n ys ≡ true
row-permuted n xs ys same there =
    let row = found-row xs n there in
    sym (ap (λ (k : ℕ). is_row k ys) row.2) ∙ row-there ys row.0 (Contains-permutation xs ys row.0 same row.1)

is_row-permuted : (n : ℕ) (xs ys : List StringRow) → IsPermutation xs ys → is_row n xs ≡ is_row n ys
is_row-permuted n xs ys same =
    both-ways (is_row n xs) (is_row n ys) (row-permuted n xs ys same) (row-permuted n ys xs (IsPermutation-sym xs ys same))

is_row-first : (n : ℕ) (s : StringRow) (strings : List StringRow)
    → is_row n (s ∷ strings) ≡ (nat_eq n s.number || is_row n strings)
is_row-first n s strings =
    by (s.number == n) refl ∙ ap (λ (b : Bool). b || is_row n strings) (nat_eq-symm s.number n)
  where
    by : (t : Bool) → (s.number == n) ≡ t → is_row n (s ∷ strings) ≡ ((s.number == n) || is_row n strings)
    by true e = rw e refl
    by false e = rw e refl

-- ---- A half that comes to a table, and one that goes

past-test : (x y z rest : Bool) → (x ≡ true → (z ≡ false) × (rest ≡ false)) → (y ≡ true → (z ≡ false) × (rest ≡ false))
    → (if x || (y || false) then false else (if z || false then true else (x || (y || rest)))) ≡ (z || rest)
past-test true y z rest first second = let none = first refl in λ i. sym none.0 i || sym none.1 i
past-test false true z rest first second = let none = second refl in λ i. sym none.0 i || sym none.1 i
past-test false false true rest first second = refl
past-test false false false rest first second = refl

through-test : (x y z rest : Bool) → (z ≡ true → (x ≡ false) × (y ≡ false) × (rest ≡ false))
    → (if z || false then false else (if x || (y || false) then true else (z || rest))) ≡ (x || (y || rest))
through-test x y true rest whole = let none = whole refl in λ i. sym none.0 i || (sym none.1 i || sym none.2 i)
through-test true y false rest whole = refl
through-test false true false rest whole = refl
through-test false false false rest whole = refl

-- what comes and goes again leaves what there was
again-test : (b was : Bool) → (was ≡ true → b ≡ false) → (if b then false else (if b then true else was)) ≡ was
again-test true true none = absurd (true≢false (none refl))
again-test true false none = refl
again-test false was none = refl

-- what is neither taken out nor brought is what was there
left-test : (gone was now : Bool) → (if gone then false else was) ≡ now → now ≡ true → gone ≡ false
left-test true was now is there = absurd (true≢false (sym there ∙ sym is))
left-test false was now is there = refl

module _ (through past : Map) (p a b : ℕ) (passing : Passing)
    (it : HasBetween through past p a b passing) where
  abbrev rest : ℕ → Bool
  rest n = is_row n it.others

  in-through : (n : ℕ) → has_string through n ≡ (nat_eq n passing.first.string || (nat_eq n passing.second.string || rest n))
  in-through n =
      is_row-permuted n through.strings (it.first_row ∷ it.second_row ∷ it.others) it.strings
      ∙ is_row-first n it.first_row (it.second_row ∷ it.others)
      ∙ ap (λ (b : Bool). nat_eq n it.first_row.number || b) (is_row-first n it.second_row it.others)
      ∙ (λ i. nat_eq n (sym it.first_along.string i) || (nat_eq n (sym it.second_along.string i) || rest n))

  in-past : (n : ℕ) → has_string past n ≡ (nat_eq n passing.whole.string || rest n)
  in-past n =
      is_row-permuted n past.strings (it.whole_row ∷ it.others) it.strings_past
      ∙ is_row-first n it.whole_row it.others
      ∙ (λ i. nat_eq n (sym it.whole_along.string i) || rest n)

  -- a string of both maps is none of the three
  rest-not : (n k : ℕ) → ((h : Half) → between.IsOther it h → h.string ≡ k → ⊥)
      → nat_eq n k ≡ true → rest n ≡ false
  rest-not n k apart same =
      false_from_ne_true (rest n) (λ there.
      let row = found-row it.others n there in
      apart (record { string = n; forward = true }) (record { row = row.0; there = row.1; number = row.2 }) (eqb-true n k same))

  other-number : (n k l : ℕ) → (k ≡ l → ⊥) → nat_eq n k ≡ true → nat_eq n l ≡ false
  other-number n k l apart same =
      false_from_ne_true (nat_eq n l) (λ h. apart (sym (eqb-true n k same) ∙ eqb-true n l h))

  -- the string past the point comes, and the two through it go
  pub past-left : (h : Half) → (if is_of (strings_of (passing.first ∷ passing.second ∷ [])) h then false
      else (if is_of (passing.whole.string ∷ []) h then true else has_string through h.string)) ≡ has_string past h.string
  past-left h =
      let n = h.string in
      ap (λ (b : Bool). if is_of (strings_of (passing.first ∷ passing.second ∷ [])) h then false else (if is_of (passing.whole.string ∷ []) h then true else b)) (in-through n)
      ∙ past-test (nat_eq n passing.first.string) (nat_eq n passing.second.string) (nat_eq n passing.whole.string) (rest n)
      (λ e. (
        other-number n passing.first.string passing.whole.string (λ k. between.zx it (sym k)) e,
        rest-not n passing.first.string (between.not-first it) e,
      ))
      (λ e. (
        other-number n passing.second.string passing.whole.string (λ k. between.zy it (sym k)) e,
        rest-not n passing.second.string (between.not-second it) e,
      ))
      ∙ sym (in-past n)

  -- the two through it come, and the one past it goes
  pub through-left : (h : Half) → (if is_of (strings_of (passing.whole ∷ [])) h then false
      else (if is_of (passing.first.string ∷ passing.second.string ∷ []) h then true else has_string past h.string)) ≡ has_string through h.string
  through-left h =
      let n = h.string in
      ap (λ (b : Bool). if is_of (strings_of (passing.whole ∷ [])) h then false else (if is_of (passing.first.string ∷ passing.second.string ∷ []) h then true else b)) (in-past n)
      ∙ through-test (nat_eq n passing.first.string) (nat_eq n passing.second.string) (nat_eq n passing.whole.string) (rest n)
      (λ e. (
        other-number n passing.whole.string passing.first.string (between.zx it) e,
        other-number n passing.whole.string passing.second.string (between.zy it) e,
        rest-not n passing.whole.string (between.not-whole it) e,
      ))
      ∙ sym (in-through n)

  -- the strings that go are none of the map's
  pub past-hidden : (h : Half) → IsShown past h → is_of (strings_of (passing.first ∷ passing.second ∷ [])) h ≡ false
  past-hidden h shown =
      left-test (is_of (strings_of (passing.first ∷ passing.second ∷ [])) h) (if is_of (passing.whole.string ∷ []) h then true else has_string through h.string)
      (has_string past h.string) (past-left h) shown

  pub through-hidden : (h : Half) → IsShown through h → is_of (strings_of (passing.whole ∷ [])) h ≡ false
  through-hidden h shown =
      left-test (is_of (strings_of (passing.whole ∷ [])) h) (if is_of (passing.first.string ∷ passing.second.string ∷ []) h then true else has_string past h.string)
      (has_string through h.string) (through-left h) shown

  -- and where what came goes again, the map's strings are left
  pub through-again : (h : Half) → (if is_of (strings_of (passing.whole ∷ [])) h then false
      else (if is_of (passing.whole.string ∷ []) h then true else has_string through h.string)) ≡ has_string through h.string
  through-again h = again-test (is_of (strings_of (passing.whole ∷ [])) h) (has_string through h.string) (through-hidden h)

  -- so the one map hasn't the other's strings
  pub first-gone : has_string past passing.first.string ≡ false
  first-gone =
      in-past passing.first.string
      ∙ (λ i. other-number passing.first.string passing.first.string passing.whole.string (λ k. between.zx it (sym k)) (nat_eq_equiv.refl passing.first.string) i
      || rest-not passing.first.string passing.first.string (between.not-first it) (nat_eq_equiv.refl passing.first.string) i)

  pub second-gone : has_string past passing.second.string ≡ false
  second-gone =
      in-past passing.second.string
      ∙ (λ i. other-number passing.second.string passing.second.string passing.whole.string (λ k. between.zy it (sym k)) (nat_eq_equiv.refl passing.second.string) i
      || rest-not passing.second.string passing.second.string (between.not-second it) (nat_eq_equiv.refl passing.second.string) i)

  pub path-different : AreDifferent (passing.first ∷ passing.second ∷ [])
  unfolding IsDistinct
  path-different = it.different.1

  pub whole-different : AreDifferent (passing.whole ∷ [])
  unfolding IsDistinct
  whole-different = (tt, tt)

  shown-in : (rows : HalfRows) (was : Half → Bool) (m : Map) → ((h : Half) → has rows h ≡ (if was h then true else has_string m h.string))
      → (h : Half) → IsShown m h → has rows h ≡ true
  shown-in rows was m all h shown = all h ∙ by (was h)
    where
      by : (t : Bool) → (if t then true else has_string m h.string) ≡ true
      by true = refl
      by false = shown

  -- and they are in the table
  pub path-in : (rows : HalfRows)
      → ((h : Half) → has rows h ≡ (if is_of (passing.whole.string ∷ []) h then true else has_string through h.string))
      → AreIn rows (passing.first ∷ passing.second ∷ [])
  path-in rows all = (
    shown-in rows (is_of (passing.whole.string ∷ [])) through all passing.first (between.first-shown it passing.first refl),
    (shown-in rows (is_of (passing.whole.string ∷ [])) through all passing.second (between.second-shown it passing.second refl), tt),
  )

  pub whole-in : (rows : HalfRows)
      → ((h : Half) → has rows h ≡ (if is_of (passing.first.string ∷ passing.second.string ∷ []) h then true else has_string past h.string))
      → AreIn rows (passing.whole ∷ [])
  whole-in rows all =
      (shown-in rows (is_of (passing.first.string ∷ passing.second.string ∷ [])) past all passing.whole (between.whole-shown it passing.whole refl), tt)
