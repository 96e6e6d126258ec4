-- No two sides are equal of strings that each lead alone from one point to another.
use Rattle.std.proofs.Common.{◌≡◌, ◌≢◌, inl, inr, refl, sym, ap, subst, ◌∙◌, ℕ, ◌+◌, ◌≤◌, ◌==◌, Bool, true, false, cond, List, [], ◌∷◌, map, filter, arith}
use Rattle.std.specs.Prelude.{◌&&◌, count_by, flat_map}
use Rattle.std.specs.List.{AllByRecursion, Contains}
use Rattle.std.proofs.lemmas.Bool.{and_from, eq-eqb}
use Rattle.std.proofs.lemmas.List.Sums.{sum_by-cons}
use Rattle.cad_rows.specs.declared.rows.StringRow.{StringRow}
use Rattle.cad_rings.specs.Cycle.{Side, opposite}
use Rattle.cad_map.specs.Map.{Map, side_of, is_end, far_end, strings_at, string_sides}
use Rattle.cad_map.specs.Valid.{EachPair}
use Rattle.cad_map.specs.Stars.{star, spokes_of}
use Rattle.cad_map.specs.declared.stars.Spoke.{Spoke}
use Rattle.cad_map.proofs.CallerLemmas.{All-follows, All-from_each, All-map, Contains-cases, Contains-in_part, count-map, count-some, count-yes, far-star, Joins, joins-end, joins-far_end}
use Rattle.cad_files.specs.Corners.{leads, LeadsAlone}
use Rattle.cad_files.specs.declared.rows.PlanString.{PlanString}

-- ---- Counts

count-later : {X : Type 0} (p : X → Bool) (x : X) (xs : List X) → count_by p xs ≤ count_by p (x ∷ xs)
count-later p x xs = let e = sum_by-cons (λ (y : _). cond (p y) 1 0) x xs in omega arith

count-filter : {X : Type 0} (q p : X → Bool) (xs : List X) → count_by p (filter q xs) ≡ count_by (λ x. q x && p x) xs
count-filter q p [] = refl
count-filter q p (x ∷ xs) = by (q x) refl (count-filter q p xs)
  where
    by : (b : Bool) → q x ≡ b → count_by p (filter q xs) ≡ count_by (λ x. q x && p x) xs → count_by p (filter q (x ∷ xs)) ≡ count_by (λ x. q x && p x) (x ∷ xs)
    by true is rest =
        ap (λ (b : Bool). count_by p (cond b (x ∷ filter q xs) (filter q xs))) is ∙ sum_by-cons (λ y. cond (p y) 1 0) x (filter q xs)
        ∙ ap (λ (n : ℕ). cond (p x) 1 0 + n) rest
        ∙ ap (λ (b : Bool). cond (b && p x) 1 0 + count_by (λ x. q x && p x) xs) (sym is)
        ∙ sym (sum_by-cons (λ y. cond (q y && p y) 1 0) x xs)
    by false is rest =
        ap (λ (b : Bool). count_by p (cond b (x ∷ filter q xs) (filter q xs))) is ∙ rest
        ∙ let none : 0 + count_by (λ x. q x && p x) xs ≡ count_by (λ x. q x && p x) xs = omega arith in sym none
        ∙ ap (λ (b : Bool). cond (b && p x) 1 0 + count_by (λ x. q x && p x) xs) (sym is)
        ∙ sym (sum_by-cons (λ y. cond (q y && p y) 1 0) x xs)

-- as many spokes of a point lead to another as strings do
pub count-star : (m : Map) (p q : ℕ) → count_by (λ e. e.far == q) (star p (spokes_of m)) ≡ count_by (leads p q) m.strings
count-star m p q =
    sym (count-map (λ (e : Spoke). e.far) (λ k. k == q) (star p (spokes_of m))) ∙ ap (count_by (λ k. k == q)) (far-star m p)
    ∙ count-map (λ (t : StringRow). far_end t p) (λ k. k == q) (strings_at m p) ∙ count-filter (λ t. is_end t p) (λ t. far_end t p == q) m.strings

-- ---- Sides

joined : (t : StringRow) (p q : ℕ) → p ≢ q → Joins t p q → leads p q t ≡ true
joined t p q apart j = and_from (is_end t p) (far_end t p == q) (joins-end t p q j) (eq-eqb (far_end t p) q (joins-far_end t p q apart j))

turned : (t : StringRow) (p q : ℕ) → Joins t p q → Joins t q p
turned t p q j = record { ends = elim j.ends [ inl e ↦ inr e | inr e ↦ inl e ] }

-- a string that leads alone among some leads alone among those behind the first
fewer : (s : StringRow) (strings : List StringRow) (t : StringRow) → LeadsAlone (s ∷ strings) t → LeadsAlone strings t
fewer s strings t is = record {
  two = is.two;
  alone = elim is.alone [
    | inl few ↦ let e = count-later (leads t.from t.to) s strings in inl (omega arith)
    | inr few ↦ let e = count-later (leads t.to t.from) s strings in inr (omega arith)
  ];
}

module _ (s : StringRow) (strings : List StringRow) (is : LeadsAlone (s ∷ strings) s) where
  two : (p q : ℕ) → p ≢ q → count_by (leads p q) (s ∷ strings) ≤ 1 → Joins s p q → (t : StringRow) → Contains strings t → Joins t p q → ⊥
  two p q apart few own t there j =
      let one = count-yes (leads p q) s strings (joined s p q apart own) in
      let some = count-some (leads p q) strings t there (joined t p q apart j) in
      omega arith

  none-joins : (t : StringRow) → Contains strings t → Joins t s.from s.to → ⊥
  none-joins t there j = elim is.alone [
    | inl few ↦ two s.from s.to is.two few (record { ends = inl (refl, refl) }) t there j
    | inr few ↦ two s.to s.from (λ e. is.two (sym e)) few (record { ends = inr (refl, refl) }) t there (turned t s.from s.to j)
  ]

  of-string : (t : StringRow) (b : Side) → Contains (side_of t ∷ opposite (side_of t) ∷ []) b → Joins t b.0 b.1
  of-string t b there = elim (Contains-cases (side_of t) (opposite (side_of t) ∷ []) b there) [
    | inl e ↦ record { ends = inl (ap (λ (a : Side). a.0) e, ap (λ (a : Side). a.1) e) }
    | inr later ↦ elim (Contains-cases (opposite (side_of t)) [] b later) [
      | inl e ↦ record { ends = inr (ap (λ (a : Side). a.1) e, ap (λ (a : Side). a.0) e) }
      | inr none ↦ let low = none.1 in absurd (omega arith)
    ]
  ]

  apart-from : (a : Side) → ((t : StringRow) → Joins t a.0 a.1 → Joins t s.from s.to) → AllByRecursion (λ b. a ≢ b) (flat_map (λ t. side_of t ∷ opposite (side_of t) ∷ []) strings)
  apart-from a along = All-from_each (λ b. a ≢ b) (flat_map (λ t. side_of t ∷ opposite (side_of t) ∷ []) strings) (λ b there same.
      let part = Contains-in_part (λ t. side_of t ∷ opposite (side_of t) ∷ []) strings b there in
      none-joins part.0 part.1 (along part.0 (subst (λ (c : Side). Joins part.0 c.0 c.1) (sym same) (of-string part.0 b part.2))))

sides-apart : (strings : List StringRow) → AllByRecursion (LeadsAlone strings) strings → EachPair (λ a b. a ≢ b) (flat_map (λ t. side_of t ∷ opposite (side_of t) ∷ []) strings)
sides-apart [] all = tt
sides-apart (s ∷ strings) all = (
  ((λ e. all.0.two (ap (λ (b : Side). b.0) e)), apart-from s strings all.0 (side_of s) (λ t j. j)),
  (
    apart-from s strings all.0 (opposite (side_of s)) (λ t j. turned t s.to s.from j),
    sides-apart strings (All-follows (LeadsAlone (s ∷ strings)) (LeadsAlone strings) (fewer s strings) strings all.1),
  ),
)

pub alone-apart : (m : Map) (strings : List PlanString) → m.strings ≡ map (λ s. s.row) strings → AllByRecursion (λ s. LeadsAlone m.strings s.row) strings → EachPair (λ a b. a ≢ b) (string_sides m)
alone-apart m strings rows all =
    sides-apart m.strings (subst (AllByRecursion (LeadsAlone m.strings)) (sym rows) (All-map (LeadsAlone m.strings) (λ (s : PlanString). s.row) strings all))
