-- Millimetres, written as metres and read back.
use Rattle.std.proofs.Common.{◌≡◌, ◌∙◌, ap, refl, ℕ, suc, ◌+◌, ◌*◌, ◌/◌, ◌%◌, ◌^◌, ◌<◌, ◌≤◌, ◌==◌, true, false, List, [], ◌∷◌, ◌++◌, length, get_or, Some, All, arith, decimal, ℤ, pos, negsuc}
use Rattle.std.specs.List.{slice_split}
use Rattle.std.proofs.lemmas.Bool.{ne_eqb}
use Rattle.std.proofs.lemmas.Fmt.{decimal_by_steps, decimal_digit}
use Rattle.std.proofs.lemmas.Int.{ints}
use Rattle.std.proofs.lemmas.List.Elements.{All-push, All-cons, All-nil}
use Rattle.std.proofs.lemmas.List.Splits.{slice_split_none, slice_split_at}
use Rattle.geo_exact.specs.Position.{InRange}
use Rattle.cad_files.specs.Fields.{digits_from}
use Rattle.cad_files.proofs.CallerLemmas.{digits_push, digits_decimal}
use Rattle.cad_views.specs.Metres.{three_digits, metres_field, is_dot, thousandths_of, millimetres_of}

-- the bytes of three digits
three-is : (r : ℕ) → r < 1000 → three_digits r ≡ (48 + r / 100) ∷ (48 + r / 10 % 10) ∷ (48 + r % 10) ∷ []
three-is r h = rw (decimal_digit (r / 100) (omega arith), decimal_digit (r / 10 % 10) (omega arith), decimal_digit (r % 10) (omega arith)) refl

one-by-one : (ds : List ℕ) (x y z : ℕ) → ds ++ x ∷ y ∷ z ∷ [] ≡ ((ds ++ x ∷ []) ++ y ∷ []) ++ z ∷ []
one-by-one [] x y z = refl
one-by-one (d ∷ ds) x y z = ap (λ (l : List ℕ). d ∷ l) (one-by-one ds x y z)

value-is : (n : ℕ) → n < 2 ^ 64 → digits_from 0 (decimal (n / 1000) ++ three_digits (n % 1000)) ≡ Some n
value-is n fits =
    let a = n / 1000 in
    let r = n % 1000 in
    let low : r < 1000 = omega arith in
    let ds = decimal a in
    let one = digits_push 0 a (r / 100) ds (omega arith) (digits_decimal a (omega arith)) in
    let two = digits_push 0 (a * 10 + r / 100) (r / 10 % 10) (ds ++ (48 + r / 100) ∷ []) (omega arith) one in
    let three = digits_push 0 ((a * 10 + r / 100) * 10 + r / 10 % 10) (r % 10) ((ds ++ (48 + r / 100) ∷ []) ++ (48 + r / 10 % 10) ∷ []) (omega arith) two in
    let sum : ((a * 10 + r / 100) * 10 + r / 10 % 10) * 10 + r % 10 ≡ n = omega arith in
    ap (λ (l : List ℕ). digits_from 0 (ds ++ l)) (three-is r low) ∙ ap (digits_from 0) (one-by-one ds (48 + r / 100) (48 + r / 10 % 10) (48 + r % 10)) ∙ three ∙ ap (λ (k : ℕ). Some k) sum

dotless : (n : ℕ) → n < 2 ^ 64 → All (λ b. is_dot b ≡ false) (decimal n)
dotless = decimal_by_steps (λ n ds. All (λ b. is_dot b ≡ false) ds)
    (λ n h. All-push (λ b. is_dot b ≡ false) [] (48 + n) (All-nil (λ b. is_dot b ≡ false)) (ne_eqb (48 + n) 46 (λ same. absurd (omega arith))))
    (λ n ds h e. All-push (λ b. is_dot b ≡ false) ds (48 + n % 10) e (ne_eqb (48 + n % 10) 46 (λ same. absurd (omega arith))))

dotless-three : (r : ℕ) → r < 1000 → All (λ b. is_dot b ≡ false) (three_digits r)
dotless-three r low =
    let P : ℕ → Type 0 = λ b. is_dot b ≡ false in
    rw (three-is r low) (All-cons P (48 + r / 100) ((48 + r / 10 % 10) ∷ (48 + r % 10) ∷ []) (ne_eqb (48 + r / 100) 46 (λ same. absurd (omega arith)))
    (All-cons P (48 + r / 10 % 10) ((48 + r % 10) ∷ []) (ne_eqb (48 + r / 10 % 10) 46 (λ same. absurd (omega arith)))
    (All-cons P (48 + r % 10) [] (ne_eqb (48 + r % 10) 46 (λ same. absurd (omega arith))) (All-nil P))))

read-back : (n : ℕ) → n < 2 ^ 64 → thousandths_of (slice_split is_dot (decimal (n / 1000) ++ 46 ∷ three_digits (n % 1000))) ≡ Some n
unfolding thousandths_of
read-back n fits =
    let low : n % 1000 < 1000 = omega arith in
    let parts : slice_split is_dot (decimal (n / 1000) ++ 46 ∷ three_digits (n % 1000)) ≡ decimal (n / 1000) ∷ three_digits (n % 1000) ∷ [] =
    slice_split_at is_dot (decimal (n / 1000)) 46 (three_digits (n % 1000)) (dotless (n / 1000) (omega arith)) refl
    ∙ ap (λ (ps : List (List ℕ)). decimal (n / 1000) ∷ ps) (slice_split_none is_dot (three_digits (n % 1000)) (dotless-three (n % 1000) low)) in
    let three : (length (three_digits (n % 1000)) == 3) ≡ true = ap (λ (l : List ℕ). length l == 3) (three-is (n % 1000) low) in
    rw (parts, three) (value-is n fits)

-- the first byte of a number is a digit
first-low : (n : ℕ) → n < 2 ^ 64 → (0 < length (decimal n)) × (48 ≤ get_or (decimal n) 0 0)
first-low = decimal_by_steps (λ n ds. (0 < length ds) × (48 ≤ get_or ds 0 0)) (λ n h. (omega arith, omega arith)) (λ n ds h e. pushed ds (48 + n % 10) e)
  where
    pushed : (ds : List ℕ) (x : ℕ) → (0 < length ds) × (48 ≤ get_or ds 0 0) → (0 < length (ds ++ x ∷ [])) × (48 ≤ get_or (ds ++ x ∷ []) 0 0)
    pushed [] x h = absurd (omega (arith, h.0))
    pushed (d ∷ ds) x h = (omega arith, h.1)

no-sign : (ds rest : List ℕ) → (0 < length ds) × (48 ≤ get_or ds 0 0) → (get_or (ds ++ rest) 0 0 == 45) ≡ false
no-sign [] rest h = absurd (omega (arith, h.0))
no-sign (d ∷ ds) rest h = let low = h.1 in ne_eqb d 45 (λ same. absurd (omega arith))

pub again : (z : ℤ) → InRange z → millimetres_of (metres_field z) ≡ Some z
unfolding metres_field millimetres_of
again (pos n) range =
    let fits : n < 2 ^ 64 = omega (arith, ints, range.high) in
    rw (no-sign (decimal (n / 1000)) (46 ∷ three_digits (n % 1000)) (first-low (n / 1000) (omega arith)), read-back n fits) refl
again (negsuc n) range =
    let fits : suc n < 2 ^ 64 = omega (arith, ints, range.low) in
    rw (read-back (suc n) fits) refl
