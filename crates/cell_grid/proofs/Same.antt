-- Entries that the test takes for the same are.
use Rattle.std.proofs.Common.{◌≡◌, ◌∙◌, ℕ, zero, suc, ◌+◌, ◌<◌, ◌≤◌, List, [], ◌∷◌, length, get_or, Bool, true, false, true≢false, cond, refl, sym, subst, arith, ℤ, eqb-true, eq-eqb}
use Rattle.std.proofs.lemmas.Bool.Decides.{Decides-int_eq}
use Rattle.std.proofs.lemmas.List.{get_or_default}
use Rattle.std.proofs.lemmas.List.Sums.{sum_by-cons}
use Rattle.std.specs.Prelude.{count_by}
use Rattle.std.specs.Ordering.{int_eq}
use Rattle.std.specs.List.{Contains}
use Rattle.geo_exact.proofs.SignTestLemmas.{and_left, and_right}
use Rattle.cell_grid.specs.declared.entry.Entry.{Entry}
use Rattle.cell_grid.specs.Entries.{is_same_entry}

int_same : (x y : ℤ) → int_eq x y ≡ true → x ≡ y
int_same x y e = (Decides-int_eq x y).0 e

int_refl : (x : ℤ) → int_eq x x ≡ true
int_refl x = (Decides-int_eq x x).1 refl

pub same_entry : (a b : Entry) → is_same_entry a b ≡ true → a ≡ b
same_entry a b e =
    let e1 = and_left _ _ e in let e2 =
    and_left _ _ e1 in let e3 = and_left _ _ e2 in let e4 = and_left _ _ e3 in
    let n = eqb-true a.number b.number e4 in
    let fx = int_same a.from.x b.from.x (and_right _ _ e3) in let fy =
    int_same a.from.y b.from.y (and_right _ _ e2) in
    let tx = int_same a.to.x b.to.x (and_right _ _ e1) in let ty =
    int_same a.to.y b.to.y (and_right _ _ e) in
    λ i. record {
      number = n i;
      from = record { x = fx i; y = fy i };
      to = record { x = tx i; y = ty i };
    }

pub is_itself : (a : Entry) → is_same_entry a a ≡ true
is_itself a = rw (
  eq-eqb a.number a.number refl,
  int_refl a.from.x,
  int_refl a.from.y,
  int_refl a.to.x,
  int_refl a.to.y,
) refl

-- an element of a list that the test takes for an entry is it, and no other element is
pub same_at : (xs : List Entry) (k : ℕ) (e x : Entry) → k < length xs → x ≡ get_or xs k x
    → is_same_entry x e ≡ true → get_or xs k e ≡ e
same_at xs k e x within is same =
    get_or_default xs k e x within ∙ sym is ∙ same_entry x e same

pub other_at : (xs : List Entry) (k : ℕ) (e x : Entry) → k < length xs → x ≡ get_or xs k x
    → is_same_entry x e ≡ false → ¬ (get_or xs k e ≡ e)
other_at xs k e x within is other here =
    let same : x ≡ e = is ∙ get_or_default xs k x e within ∙ here in
    true≢false (sym (subst (λ (y : Entry). is_same_entry y e ≡ true) (sym same) (is_itself e))
    ∙ other)

-- ---- Membership and counts

pub count_more : (p : Entry → Bool) (x : Entry) (xs : List Entry)
    → count_by p (x ∷ xs) ≡ cond (p x) 1 0 + count_by p xs
count_more p x xs = sum_by-cons (λ (y : Entry). cond (p y) 1 0) x xs

pub one_from_Contains : (xs : List Entry) (e : Entry) → Contains xs e
    → 1 ≤ count_by (is_same_entry e) xs
one_from_Contains [] e (k, within, is) = absurd (omega arith)
one_from_Contains (x ∷ xs) e (zero, within, is) =
    let here : is_same_entry e x ≡ true =
    subst (λ (y : Entry). is_same_entry e y ≡ true) (sym is) (is_itself e) in
    let more = count_more (is_same_entry e) x xs in
    let one : cond {A = ℕ} (is_same_entry e x) 1 0 ≡ 1 =
    subst (λ (b : Bool). cond {A = ℕ} b 1 0 ≡ 1) (sym here) refl in
    omega arith
one_from_Contains (x ∷ xs) e (suc k, within, is) =
    let h = one_from_Contains xs e (k, omega arith, is) in
    let more = count_more (is_same_entry e) x xs in
    omega arith

pub Contains_from_one : (xs : List Entry) (e : Entry) → 1 ≤ count_by (is_same_entry e) xs
    → Contains xs e
Contains_from_one [] e h = absurd (omega arith)
Contains_from_one (x ∷ xs) e h = by (is_same_entry e x) refl (Contains_from_one xs e)
  where
    by : (b : Bool) → is_same_entry e x ≡ b → (1 ≤ count_by (is_same_entry e) xs → Contains xs e)
        → Contains (x ∷ xs) e
    by true is later = (0, omega arith, sym (same_entry e x is))
    by false is later =
        let none : cond {A = ℕ} (is_same_entry e x) 1 0 ≡ 0 =
        subst (λ (b : Bool). cond {A = ℕ} b 1 0 ≡ 0) (sym is) refl in
        let more = count_more (is_same_entry e) x xs in
        let there = later (omega arith) in
        (suc there.0, omega (arith, there.1), there.2)
