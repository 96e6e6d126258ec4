-- The spokes of a point are its strings, in order.
use Rattle.std.proofs.Common.{◌≡◌, ◌∙◌, ℕ, ◌+◌, suc, Bool, true, false, cond, ◌||◌, List, [], ◌∷◌, ◌++◌, length, map, filter, Some, slice_get, refl, ap, sym, subst, eqb, arith}
use Rattle.std.specs.List.{AllByRecursion, flat_map, enumerate_from}
use Rattle.std.proofs.lemmas.List.{length-map}
use Rattle.std.proofs.lemmas.List.Elements.{filter-append}
use Rattle.std.proofs.lemmas.Bool.{eqb-true}
use Rattle.std.proofs.lemmas.Bool.Decides.{nat_tests}
use Rattle.cad_rows.specs.declared.rows.StringRow.{StringRow}
use Rattle.cad_map.specs.declared.stars.Spoke.{Spoke}
use Rattle.cad_map.specs.Map.{Map, is_end, far_end, strings_at, degree, position_of}
use Rattle.cad_map.specs.Stars.{spoke_of, spokes_at, spokes_of, star}

-- the strings of a list that have the point, as it sees them
abbrev pub seen : Map → ℕ → ℕ → List StringRow → List Spoke
seen m p n [] = []
seen m p n (s ∷ strings) = cond (is_end s p) (spoke_of m n s p ∷ []) [] ++ seen m p (n + 1) strings

one_of_two : (f t p : ℕ) → eqb f t ≡ true → eqb f p ≡ true → eqb t p ≡ false → ⊥
one_of_two f t p same first second = grind (arith, nat_tests)

other_of_two : (f t p : ℕ) → eqb f t ≡ true → eqb f p ≡ false → eqb t p ≡ true → ⊥
other_of_two f t p same first second = grind (arith, nat_tests)

not_both : (f t p : ℕ) → eqb f t ≡ false → eqb f p ≡ true → eqb t p ≡ true → ⊥
not_both f t p differ first second = grind (arith, nat_tests)

-- a point sees a string once, where it is one of its ends
one_seen : (m : Map) (p n : ℕ) (s : StringRow) → star p (spokes_at m n s) ≡ cond (is_end s p) (spoke_of m n s p ∷ []) []
one_seen m p n s = go (eqb s.from s.to) (eqb s.from p) (eqb s.to p) refl refl refl
  where
    end_at : (q : ℕ) → star p (spokes_at m n s) ≡ spoke_of m n s q ∷ [] → eqb q p ≡ true → is_end s p ≡ true
        → star p (spokes_at m n s) ≡ cond (is_end s p) (spoke_of m n s p ∷ []) []
    end_at q one is end =
        one ∙ ap (λ r. spoke_of m n s r ∷ []) (eqb-true q p is) ∙ sym (ap (λ b. cond b (spoke_of m n s p ∷ []) []) end)

    go : (same first second : Bool) → eqb s.from s.to ≡ same → eqb s.from p ≡ first → eqb s.to p ≡ second
        → star p (spokes_at m n s) ≡ cond (is_end s p) (spoke_of m n s p ∷ []) []
    go true true true same first second = end_at s.from (rw (same, first) refl) first (rw first refl)
    go true true false same first second = absurd (one_of_two s.from s.to p same first second)
    go true false true same first second = absurd (other_of_two s.from s.to p same first second)
    go true false false same first second = rw (same, first, second) refl
    go false true true same first second = absurd (not_both s.from s.to p same first second)
    go false true false same first second = end_at s.from (rw (same, first, second) refl) first (rw first refl)
    go false false true same first second = end_at s.to (rw (same, first, second) refl) second (rw (first, second) refl)
    go false false false same first second = rw (same, first, second) refl

all_seen : (m : Map) (p n : ℕ) (strings : List StringRow)
    → star p (flat_map (λ e. spokes_at m e.0 e.1) (enumerate_from n strings)) ≡ seen m p n strings
all_seen m p n [] = refl
all_seen m p n (s ∷ strings) =
    filter-append (λ s. eqb s.at p) (spokes_at m n s) _
    ∙ rw (one_seen m p n s, all_seen m p (n + 1) strings) refl

pub star-seen : (m : Map) (p : ℕ) → star p (spokes_of m) ≡ seen m p 0 m.strings
star-seen m p = all_seen m p 0 m.strings

far-seen : (m : Map) (p n : ℕ) (strings : List StringRow)
    → map (λ s. s.far) (seen m p n strings) ≡ map (λ t. far_end t p) (filter (λ t. is_end t p) strings)
far-seen m p n [] = refl
far-seen m p n (s ∷ strings) = go (is_end s p) refl (far-seen m p (n + 1) strings)
  where
    go : (b : Bool) → is_end s p ≡ b
        → map (λ s. s.far) (seen m p (n + 1) strings) ≡ map (λ t. far_end t p) (filter (λ t. is_end t p) strings)
        → map (λ s. s.far) (seen m p n (s ∷ strings)) ≡ map (λ t. far_end t p) (filter (λ t. is_end t p) (s ∷ strings))
    go true is rest = rw is (ap (λ l. far_end s p ∷ l) rest)
    go false is rest = rw is rest

-- the points that the spokes of a point lead to are the other ends of its strings, in order
pub far-star : (m : Map) (p : ℕ) → map (λ s. s.far) (star p (spokes_of m)) ≡ map (λ t. far_end t p) (strings_at m p)
far-star m p = ap (map (λ s. s.far)) (star-seen m p) ∙ far-seen m p 0 m.strings

-- a point has as many spokes as strings
pub length-star : (m : Map) (p : ℕ) → length (star p (spokes_of m)) ≡ degree m p
length-star m p =
    sym (length-map (star p (spokes_of m)) (λ (s : Spoke). s.far)) ∙ ap length (far-star m p)
    ∙ length-map (strings_at m p) (λ (t : StringRow). far_end t p)

-- the string that a spoke stands for
pub record IsSpoke (m : Map) (s : Spoke) : Type 0 where
  pub row : StringRow
  pub found : slice_get m.strings s.place ≡ Some row
  pub is_end : is_end row s.at ≡ true
  pub far : far_end row s.at ≡ s.far
  pub position : s.position ≡ position_of m s.far

spoke-there : (m : Map) (n : ℕ) (s : StringRow) (p : ℕ) → slice_get m.strings n ≡ Some s → is_end s p ≡ true → IsSpoke m (spoke_of m n s p)
spoke-there m n s p found is = record { row = s; found = found; is_end = is; far = refl; position = refl }

first_is_end : (f t : ℕ) → (eqb f f || eqb t f) ≡ true
first_is_end f t = grind (arith, nat_tests)

second_is_end : (f t : ℕ) → (eqb f t || eqb t t) ≡ true
second_is_end f t = grind (arith, nat_tests)

each-there : (m : Map) (n : ℕ) (s : StringRow) → slice_get m.strings n ≡ Some s → AllByRecursion (IsSpoke m) (spokes_at m n s)
each-there m n s found = go (eqb s.from s.to) refl
  where
    go : (b : Bool) → eqb s.from s.to ≡ b → AllByRecursion (IsSpoke m) (spokes_at m n s)
    go true is = subst (λ b. AllByRecursion (IsSpoke m) (cond b (spoke_of m n s s.from ∷ []) (spoke_of m n s s.from ∷ spoke_of m n s s.to ∷ []))) (sym is)
        (spoke-there m n s s.from found (first_is_end s.from s.to), tt)
    go false is = subst (λ b. AllByRecursion (IsSpoke m) (cond b (spoke_of m n s s.from ∷ []) (spoke_of m n s s.from ∷ spoke_of m n s s.to ∷ []))) (sym is)
        (spoke-there m n s s.from found (first_is_end s.from s.to), (spoke-there m n s s.to found (second_is_end s.from s.to), tt))

both-all : (P : Spoke → Type 0) (xs ys : List Spoke) → AllByRecursion P xs → AllByRecursion P ys → AllByRecursion P (xs ++ ys)
both-all P [] ys one two = two
both-all P (x ∷ xs) ys one two = (one.0, both-all P xs ys one.1 two)

all-there : (m : Map) (n : ℕ) (strings : List StringRow) → ((k : ℕ) → slice_get m.strings (n + k) ≡ slice_get strings k)
    → AllByRecursion (IsSpoke m) (flat_map (λ e. spokes_at m e.0 e.1) (enumerate_from n strings))
all-there m n [] at = tt
all-there m n (s ∷ strings) at =
    let here : n + 0 ≡ n = omega arith in
    both-all (IsSpoke m) (spokes_at m n s) _ (each-there m n s (ap (slice_get m.strings) (sym here) ∙ at 0))
    (all-there m (n + 1) strings (λ k. let next : n + 1 + k ≡ n + suc k = omega arith in ap (slice_get m.strings) next ∙ at (suc k)))

-- each spoke of a map stands for one of its strings
pub IsSpoke-all : (m : Map) → AllByRecursion (IsSpoke m) (spokes_of m)
IsSpoke-all m = all-there m 0 m.strings (λ k. let here : 0 + k ≡ k = omega arith in ap (slice_get m.strings) here)
