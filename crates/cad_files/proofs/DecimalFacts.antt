-- What is written as a field reads as what it was.
use Rattle.std.proofs.Common.{◌≡◌, ◌∙◌, sym, ap, refl, ℕ, zero, suc, ◌+◌, ◌-◌, ◌*◌, ◌/◌, ◌%◌, ◌^◌, ◌<◌, ◌≤◌, ◌==◌, List, [], ◌∷◌, ◌++◌, map, length, length-append, get_or, Some, None, All, arith, true, false, inl, inr, ◌&&◌, nat_le, decimal, ℤ, pos, negsuc}
use Rattle.std.specs.Fmt.{signed_decimal}
use Rattle.std.specs.List.{AllByRecursion, join_with_byte, slice_split}
use Rattle.std.specs.Str.{bytes_eq}
use Rattle.std.proofs.lemmas.Str.{is_utf8-from_IsUtf8}
use Rattle.std.proofs.lemmas.Bool.Decides.{nat_tests}
use Rattle.std.proofs.lemmas.Bool.{cases_Bool, ne_eqb}
use Rattle.std.proofs.lemmas.Fmt.{decimal_by_steps, decimal_digit, first_decimal, length-decimal-le}
use Rattle.std.proofs.lemmas.Int.{ints}
use Rattle.std.proofs.lemmas.List.Elements.{All-push}
use Rattle.std.proofs.lemmas.List.Splits.{slice_split_none, slice_split_at}
use Rattle.geo_exact.specs.Position.{InRange}
use Rattle.cad_rows.specs.Limits.{IsNumber, IsLabel}
use Rattle.cad_files.specs.Fields.{digits_from, magnitude_of, number_of, coordinate_of, text_of, numbers_of, all_numbers, is_space, starts_well}
use Rattle.cad_files.specs.Texts.{list_field}
use Rattle.cad_files.proofs.DigitFacts.{digits_next}

pub digits_push : (v m d : ℕ) (ds : List ℕ) → d < 10 → digits_from v ds ≡ Some m → digits_from v (ds ++ ((48 + d) ∷ [])) ≡ Some (m * 10 + d)
unfolding digits_from
digits_push v m d [] h e =
    let v_is : v ≡ m = cc in
    rw (digits_next v (48 + d) [] (omega arith) (omega arith)) (ap (λ n. Some n) (omega arith))
digits_push v m d (c ∷ cs) h e = elim (cases_Bool (nat_le 48 c && nat_le c 57)) [
  | inl digit ↦ rw digit (digits_push (v * 10 + (c - 48)) m d cs h (rw digit at e))
  | inr other ↦ absurd (let bad : None ≡ Some m = rw other at e in cc)
]

pub digits_decimal : (n : ℕ) → n < 2 ^ 64 → digits_from 0 (decimal n) ≡ Some n
unfolding digits_from
digits_decimal = decimal_by_steps (λ n ds. digits_from 0 ds ≡ Some n)
    (λ n h. digits_next 0 (48 + n) [] (omega arith) (omega arith) ∙ ap (λ k. Some k) (omega arith))
    (λ n ds h e. digits_push 0 (n / 10) (n % 10) ds (omega arith) e ∙ ap (λ k. Some k) (omega arith))

first_push : (ds : List ℕ) (x : ℕ) → (0 < length ds) × (get_or ds 0 0 ≤ 57) → (0 < length (ds ++ (x ∷ []))) × (get_or (ds ++ (x ∷ [])) 0 0 ≤ 57)
first_push [] x h = absurd (omega (arith, h.0))
first_push (c ∷ cs) x h = (omega arith, h.1)

first_low : (n : ℕ) → n < 2 ^ 64 → (0 < length (decimal n)) × (get_or (decimal n) 0 0 ≤ 57)
first_low = decimal_by_steps (λ n ds. (0 < length ds) × (get_or ds 0 0 ≤ 57)) (λ n h. (omega arith, omega arith)) (λ n ds h e. first_push ds (48 + n % 10) e)

magnitude_again : (most n : ℕ) → 0 < n → 1 ≤ most → n < 10 ^ most → n < 2 ^ 64 → magnitude_of most (decimal n) ≡ Some n
unfolding magnitude_of
magnitude_again most n some digit few fits =
    let short : length (decimal n) ≤ most = length-decimal-le most n digit few fits in
    let first : 48 < get_or (decimal n) 0 0 = first_decimal n some fits in
    let high : get_or (decimal n) 0 0 ≤ 57 = (first_low n fits).1 in
    let starts : starts_well (decimal n) ≡ true = grind (arith, nat_tests) in
    let within : nat_le (length (decimal n)) most ≡ true = grind (arith, nat_tests) in
    rw (starts, within) (digits_decimal n fits)

pub number_again : (n : ℕ) → 0 < n → n < 10 ^ 9 → number_of (decimal n) ≡ Some n
number_again n some few = magnitude_again 9 n some (omega arith) few (omega arith)

-- ---- Coordinates

other_first : (n : ℕ) → 0 < n → n < 2 ^ 64 → (get_or (decimal n) 0 0 == 45) ≡ false
other_first n some fits = let first : 48 < get_or (decimal n) 0 0 = first_decimal n some fits in ne_eqb _ 45 (λ same. absurd (omega arith))

no_zero : (ds : List ℕ) → 48 < get_or ds 0 0 → bytes_eq ds (48 ∷ []) ≡ false
no_zero [] first = refl
no_zero (d ∷ ds) first = let other : (d == 48) ≡ false = ne_eqb d 48 (λ same. absurd (omega arith)) in rw other refl

pub coordinate_again : (z : ℤ) → InRange z → coordinate_of (signed_decimal z) ≡ Some z
unfolding coordinate_of
coordinate_again (pos zero) range = rw (decimal_digit 0 (omega arith)) refl
coordinate_again (pos (suc n)) range =
    let few : suc n ≤ 10000000000 = omega (arith, ints, range.high) in
    let fits : suc n < 2 ^ 64 = omega arith in
    rw (other_first (suc n) (omega arith) fits, no_zero (decimal (suc n)) (first_decimal (suc n) (omega arith) fits), magnitude_again 18 (suc n) (omega arith) (omega arith) (omega arith) fits) refl
coordinate_again (negsuc n) range =
    let few : suc n ≤ 10000000000 = omega (arith, ints, range.low) in
    rw (magnitude_again 18 (suc n) (omega arith) (omega arith) (omega arith) (omega arith)) refl

-- ---- Texts and lists

pub text_again : (bytes : List ℕ) → IsLabel bytes → text_of bytes ≡ Some bytes
unfolding text_of
text_again bytes h =
    let some : nat_le 1 (length bytes) ≡ true = let low = h.some in grind (arith, nat_tests) in
    let within : nat_le (length bytes) 80 ≡ true = let high = h.within in grind (arith, nat_tests) in
    rw (is_utf8-from_IsUtf8 bytes h.text, some, within) refl

spaceless : (n : ℕ) → n < 2 ^ 64 → All (λ b. is_space b ≡ false) (decimal n)
spaceless = decimal_by_steps (λ n ds. All (λ b. is_space b ≡ false) ds)
    (λ n h. All-push (λ b. is_space b ≡ false) [] (48 + n) (λ k d lt. absurd (omega arith)) (ne_eqb (48 + n) 32 (λ same. absurd (omega arith))))
    (λ n ds h e. All-push (λ b. is_space b ≡ false) ds (48 + n % 10) e (ne_eqb (48 + n % 10) 32 (λ same. absurd (omega arith))))

split-join : (n : ℕ) (ns : List ℕ) → AllByRecursion IsNumber (n ∷ ns) → slice_split is_space (join_with_byte 32 (map decimal (n ∷ ns))) ≡ map decimal (n ∷ ns)
split-join n [] all = slice_split_none is_space (decimal n) (spaceless n (omega (arith, all.0.within)))
split-join n (m ∷ ns) all =
    slice_split_at is_space (decimal n) 32 (join_with_byte 32 (map decimal (m ∷ ns))) (spaceless n (omega (arith, all.0.within))) refl
    ∙ ap (λ (ps : List (List ℕ)). decimal n ∷ ps) (split-join m ns all.1)

all_again : (ns : List ℕ) → AllByRecursion IsNumber ns → all_numbers (map decimal ns) ≡ Some ns
unfolding all_numbers
all_again [] all = refl
all_again (n ∷ ns) all = rw (number_again n (omega (arith, all.0.some)) (omega (arith, all.0.within)), all_again ns all.1) refl

join-long : (n : ℕ) (ns : List ℕ) → n < 2 ^ 64 → (length (join_with_byte 32 (map decimal (n ∷ ns))) == 0) ≡ false
join-long n [] fits = let some = (first_low n fits).0 in ne_eqb _ 0 (λ same. absurd (omega arith))
join-long n (m ∷ ns) fits =
    let some = (first_low n fits).0 in
    let long = length-append (decimal n) (32 ∷ join_with_byte 32 (map decimal (m ∷ ns))) in
    ne_eqb _ 0 (λ same. let none = sym long ∙ same in absurd (omega arith))

pub list_again : (ns : List ℕ) → AllByRecursion IsNumber ns → numbers_of (list_field ns) ≡ Some ns
unfolding numbers_of list_field
list_again [] all = refl
list_again (n ∷ ns) all = rw (join-long n ns (omega (arith, all.0.within)), split-join n ns all) (all_again (n ∷ ns) all)
