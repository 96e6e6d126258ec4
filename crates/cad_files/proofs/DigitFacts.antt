-- Reading digits from the left.
use Rattle.std.proofs.Common.{◌≡◌, sym, refl, ℕ, suc, ◌+◌, ◌-◌, ◌*◌, ◌^◌, ◌<◌, ◌≤◌, ◌⊎◌, List, ◌∷◌, length, drop, get_or, Option, Some, None, IfSome, arith, add-one, drop-cons, true, inl, inr, [], nat_le, ◌&&◌}
use Rattle.std.proofs.lemmas.List.{drop_all}
use Rattle.std.proofs.Math.Nat.{pow-suc, pow-le-pow_right}
use Rattle.std.proofs.lemmas.Bool.{cases_Bool}
use Rattle.std.proofs.lemmas.Bool.Decides.{nat_tests}
use Rattle.cad_files.specs.Fields.{digits_from, starts_well}

pub digits_next : (v d : ℕ) (rest : List ℕ) → 48 ≤ d → d ≤ 57 → digits_from v (d ∷ rest) ≡ digits_from (v * 10 + (d - 48)) rest
unfolding digits_from
digits_next v d rest low high = grind (arith, nat_tests)

pub digits_none : (v d : ℕ) (rest : List ℕ) → (d < 48) ⊎ (57 < d) → digits_from v (d ∷ rest) ≡ None
unfolding digits_from
digits_none v d rest out = grind (arith, nat_tests)

pub digits_at : (text : List ℕ) (v i : ℕ) → i < length text → 48 ≤ get_or text i 0 → get_or text i 0 ≤ 57
    → digits_from (v * 10 + (get_or text i 0 - 48)) (drop (i + 1) text) ≡ digits_from v (drop i text)
digits_at text v i h low high = sym (rw (drop-cons text i 0 h, add-one) (digits_next v (get_or text i 0) (drop (suc i) text) low high))

pub digits_stop : (text : List ℕ) (v i : ℕ) → i < length text → (get_or text i 0 < 48) ⊎ (57 < get_or text i 0)
    → digits_from v (drop i text) ≡ None
digits_stop text v i h out = rw (drop-cons text i 0 h) (digits_none v (get_or text i 0) (drop (suc i) text) out)

pub digits_end : (text : List ℕ) (v i : ℕ) → length text ≤ i → digits_from v (drop i text) ≡ Some v
unfolding digits_from
digits_end text v i h = rw (drop_all i text h) refl

-- one more digit
pub digit_grows : (v d i : ℕ) → v < 10 ^ i → d ≤ 57 → v * 10 + (d - 48) < 10 ^ (i + 1)
digit_grows v d i h high = rw add-one (omega (arith, pow-suc 10 i))

pub digit_fits : (v i : ℕ) → v < 10 ^ i → i < 18 → v * 10 + 9 < 2 ^ 64
digit_fits v i h few = omega (arith, pow-suc 10 i, pow-le-pow_right {n = 10} (omega arith) {i = suc i} {j = 18} (omega arith))

pub short_bound : (v n most : ℕ) → v < 10 ^ n → n ≤ most → v < 10 ^ most
short_bound v n most h few = omega (arith, pow-le-pow_right {n = 10} (omega arith) {i = n} {j = most} few)

pub short_if : (o : Option ℕ) (n most : ℕ) → IfSome o (λ v. v < 10 ^ n) → n ≤ most → IfSome o (λ v. v < 10 ^ most)
short_if None n most h few = tt
short_if (Some v) n most h few = short_bound v n most h few

if_above : (o : Option ℕ) (v w : ℕ) → w ≤ v → IfSome o (λ n. v ≤ n) → IfSome o (λ n. w ≤ n)
if_above None v w h e = tt
if_above (Some n) v w h e = omega arith

-- more digits make a number no less
pub digits_grow : (v : ℕ) (ds : List ℕ) → IfSome (digits_from v ds) (λ n. v ≤ n)
unfolding digits_from
digits_grow v [] = omega arith
digits_grow v (d ∷ ds) = elim (cases_Bool (nat_le 48 d && nat_le d 57)) [
  | inl digit ↦ rw digit (if_above (digits_from (v * 10 + (d - 48)) ds) (v * 10 + (d - 48)) v (omega arith) (digits_grow (v * 10 + (d - 48)) ds))
  | inr other ↦ rw other tt
]

-- digits of which the first is no zero stand for no zero
pub digits_some : (text : List ℕ) → starts_well text ≡ true → IfSome (digits_from 0 text) (λ n. 1 ≤ n)
unfolding digits_from
digits_some [] starts = cc starts
digits_some (d ∷ ds) starts =
    let low : 49 ≤ d = grind (arith, nat_tests) in
    let high : d ≤ 57 = grind (arith, nat_tests) in
    let digit : (nat_le 48 d && nat_le d 57) ≡ true = grind (arith, nat_tests) in
    rw digit (if_above (digits_from (0 * 10 + (d - 48)) ds) (0 * 10 + (d - 48)) 1 (omega arith) (digits_grow (0 * 10 + (d - 48)) ds))
