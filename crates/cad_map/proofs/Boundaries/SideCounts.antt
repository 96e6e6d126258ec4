-- Counts of sides that pass a test, along a ring and ring by ring.
use Rattle.std.proofs.Common.{◌≡◌, ℕ, ◌+◌, ◌<◌, ◌≤◌, sym, ap, ◌∙◌, List, [], ◌∷◌, ◌++◌, length, filter, Bool, true, false, cond, arith, length-append}
use Rattle.std.proofs.lemmas.List.Elements.{filter-append}
use Rattle.std.proofs.lemmas.List.Filters.{length-filter_both}
use Rattle.std.proofs.lemmas.List.Sorted.{sum_by-IsPermutation}
use Rattle.std.proofs.lemmas.List.Sums.{length-filter}
use Rattle.std.specs.Prelude.{if◌then◌else◌, not}
use Rattle.cad_rows.specs.declared.names.Face.{Face}
use Rattle.cad_rings.specs.Cycle.{Side, sides_of}
use Rattle.cad_map.specs.declared.boundary.Boundary.{Boundary}
use Rattle.cad_map.specs.Boundaries.{canonical_order}
use Rattle.cad_map.specs.Map.{Map, rings_at, face_sides}
use Rattle.cad_map.specs.Rings.{HasWholeRings, ring_at}
use Rattle.cad_map.proofs.Boundaries.FaceSums.{sides_up_to, up_to-few, up_to-next, up_to-all}

-- one more element that is tested
pub filter-push : {X : Type 0} (test : X → Bool) (xs : List X) (x : X) (count one : ℕ) (passes : Bool) → count ≡ length (filter test xs) → passes ≡ test x → one ≡ (if passes then 1 else 0) → count + one ≡ length (filter test (xs ++ x ∷ []))
filter-push test xs x count one passes counted tested is = by passes tested is
  where
    all : length (filter test (xs ++ x ∷ [])) ≡ length (filter test xs) + length (filter test (x ∷ []))
    all = ap length (filter-append test xs (x ∷ [])) ∙ length-append (filter test xs) (filter test (x ∷ []))

    last : (b : Bool) → b ≡ test x → length (filter test (x ∷ [])) ≡ length (cond b (x ∷ []) [])
    last b same = ap (λ (c : Bool). length (cond c (x ∷ []) [])) (sym same)

    by : (b : Bool) → b ≡ test x → one ≡ (if b then 1 else 0) → count + one ≡ length (filter test (xs ++ x ∷ []))
    by true same e = let l = last true same in omega (arith, all, l, e, counted)
    by false same e = let l = last false same in omega (arith, all, l, e, counted)

pub filter-few : {X : Type 0} (test : X → Bool) (xs : List X) → length (filter test xs) ≤ length xs
filter-few test xs = let e = length-filter_both test (λ x. not (test x)) (λ x i. not (test x)) xs in omega arith

module _ (m : Map) (bs : List Boundary) (whole : HasWholeRings m) (is : canonical_order bs ≡ m.boundaries) (face : Face) (test : Side → Bool) where
  abbrev pub count_up_to : ℕ → ℕ
  count_up_to place = length (filter test (sides_up_to m bs whole is face place))

  -- no more than all strings have sides
  pub count_up_to-few : (place : ℕ) → count_up_to place ≤ 400000
  count_up_to-few place = let few = filter-few test (sides_up_to m bs whole is face place) in let most = up_to-few m bs whole is face place in omega (arith, few, most)

  -- one more ring
  pub count_up_to-next : (place : ℕ) → place < length (rings_at face bs) → count_up_to (place + 1) ≡ count_up_to place + length (filter test (sides_of (ring_at bs face place)))
  count_up_to-next place within =
      let before = sides_up_to m bs whole is face place in
      let here = sides_of (ring_at bs face place) in
      ap (λ (l : List Side). length (filter test l)) (up_to-next m bs whole is face place within)
      ∙ ap length (filter-append test before here) ∙ length-append (filter test before) (filter test here)

  -- and all of them
  pub count_up_to-all : (place : ℕ) → length (rings_at face bs) ≤ place → count_up_to place ≡ length (filter test (face_sides m face))
  count_up_to-all place past =
      let before = sides_up_to m bs whole is face place in
      length-filter test before ∙ sym (sum_by-IsPermutation (λ (s : Side). cond (test s) 1 0) before (face_sides m face) (up_to-all m bs whole is face place past)) ∙ sym (length-filter test (face_sides m face))
