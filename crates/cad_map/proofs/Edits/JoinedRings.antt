-- Two strings that meet in a point with no third: the corners there, and the rings without the point.
use Rattle.std.proofs.Common.{◌≡◌, ℕ, ◌+◌, ◌≤◌, inl, inr, refl, sym, ap, subst, ◌∙◌, List, [], ◌∷◌, ◌++◌, length, map, filter, Bool, true, false, cond, ◌==◌, Some, arith}
use Rattle.std.specs.Prelude.{count_by, flat_map}
use Rattle.std.specs.List.{AllByRecursion, Contains}
use Rattle.std.proofs.lemmas.List.{map-append}
use Rattle.std.proofs.lemmas.Grind.{flat_map-append}
use Rattle.std.proofs.lemmas.List.Sums.{sum_by-cons, sum_by-append}
use Rattle.std.proofs.lemmas.List.Elements.{Contains-append_cases}
use Rattle.cad_rings.specs.Cycle.{Ring, Side, sides_of, Corner, corners_of}
use Rattle.cad_rings.specs.Surgery.{without}
use Rattle.cad_map.specs.declared.boundary.Boundary.{Boundary}
use Rattle.cad_map.specs.Boundaries.{bounding, sides_in, corners_in}
use Rattle.cad_map.specs.Walk.{first_side}
use Rattle.cad_map.proofs.Lists.Elements.{Contains-cases, Contains-first, Contains-later, Contains-map}
use Rattle.cad_map.proofs.Walks.Counted.{times, times-append, times-permuted}
use Rattle.cad_map.proofs.Walks.CornersAt.{corners_at, new_side, old_sides, sides-without}
use Rattle.cad_map.proofs.Walks.AlongRing.{side_before, side_behind, sides-before, sides-behind, begins_with}

-- ---- The two sides at a corner

pub first-there : (ring : Ring) → 2 ≤ length ring → (first : Side) × (first_side ring ≡ Some first)
first-there [] two = absurd (omega arith)
first-there (a ∷ []) two = absurd (omega arith)
first-there (a ∷ b ∷ points) two = ((a, b), refl)

pub corner-sides : (ring : Ring) → 2 ≤ length ring → (c : Corner) → Contains (corners_of ring) c → Contains (sides_of ring) (side_before c) × Contains (sides_of ring) (side_behind c)
corner-sides ring two c h = (
  subst (λ (l : List Side). Contains l (side_before c)) (sides-before ring two) (Contains-map side_before (corners_of ring) c h),
  behind,
)
  where
    first : (first : Side) × (first_side ring ≡ Some first)
    first = first-there ring two

    begins : (others : List Side) × (sides_of ring ≡ first.0 ∷ others)
    begins = begins_with first.0 ring first.1

    behind : Contains (sides_of ring) (side_behind c)
    behind =
        let all = subst (λ (l : List Side). Contains l (side_behind c)) (sides-behind ring first.0 two first.1) (Contains-later first.0 (map side_behind (corners_of ring)) (side_behind c) (Contains-map side_behind (corners_of ring) c h)) in
        elim (Contains-append_cases (sides_of ring) (first.0 ∷ []) (side_behind c) all) [
          | inl here ↦ here
          | inr last ↦ elim (Contains-cases first.0 [] (side_behind c) last) [
            | inl same ↦ subst (λ (l : List Side). Contains l (side_behind c)) (sym begins.1) (subst (Contains (first.0 ∷ begins.0)) same (Contains-first first.0 begins.0))
            | inr none ↦ let low = none.1 in absurd (omega arith)
          ]
        ]

-- ---- Parts of lists

pub count-filter : {X : Type 0} (test kept : X → Bool) (xs : List X) → count_by test (filter kept xs) ≤ count_by test xs
count-filter test kept [] = omega arith
count-filter test kept (x ∷ xs) = by (kept x) (count-filter test kept xs) (sum_by-cons (λ (z : _). cond (test z) 1 0) x xs) (sum_by-cons (λ (z : _). cond (test z) 1 0) x (filter kept xs))
  where
    by : (b : Bool) → count_by test (filter kept xs) ≤ count_by test xs → count_by test (x ∷ xs) ≡ cond (test x) 1 0 + count_by test xs → count_by test (x ∷ filter kept xs) ≡ cond (test x) 1 0 + count_by test (filter kept xs)
        → count_by test (cond b (x ∷ filter kept xs) (filter kept xs)) ≤ count_by test (x ∷ xs)
    by true rest e k = omega (arith, rest, e, k)
    by false rest e k = omega (arith, rest, e)

pub count-part : {X Y : Type 0} (test : X → Bool) (f : Y → List X) (ys : List Y) (y : Y) → Contains ys y → count_by test (f y) ≤ count_by test (flat_map f ys)
count-part test f [] y h = let low = h.1 in absurd (omega arith)
count-part test f (z ∷ ys) y h =
    let e = sum_by-append (λ (x : _). cond (test x) 1 0) (f z) (flat_map f ys) in
    elim (Contains-cases z ys y h) [
      | inl is ↦ let k = ap (λ (w : _). count_by test (f w)) is in omega (arith, e, k)
      | inr later ↦ let k = count-part test f ys y later in omega (arith, e, k)
    ]

pub filter-append : {X : Type 0} (test : X → Bool) (xs ys : List X) → filter test (xs ++ ys) ≡ filter test xs ++ filter test ys
filter-append test [] ys = refl
filter-append test (x ∷ xs) ys = by (test x) (filter-append test xs ys)
  where
    by : (b : Bool) → filter test (xs ++ ys) ≡ filter test xs ++ filter test ys → cond b (x ∷ filter test (xs ++ ys)) (filter test (xs ++ ys)) ≡ cond b (x ∷ filter test xs) (filter test xs) ++ filter test ys
    by true rest = ap (λ (l : List _). x ∷ l) rest
    by false rest = rest

-- the corners at a point, ring by ring and of all rings
pub at-point : (p : ℕ) (bs : List Boundary) → flat_map (λ b. corners_at p b.ring) bs ≡ filter (λ c. c.at == p) (corners_in bs)
at-point p [] = refl
at-point p (b ∷ bs) = ap (λ (l : List Corner). corners_at p b.ring ++ l) (at-point p bs) ∙ sym (filter-append (λ c. c.at == p) (corners_of b.ring) (corners_in bs))

abbrev pub dropped : ℕ → Boundary → Boundary
dropped p b = bounding b.face (without p b.ring)

-- the sides of rings with and without a point that each passes at most once
pub sides-dropped : (p : ℕ) (u : Side) (bs : List Boundary) → AllByRecursion (λ b. 2 ≤ length b.ring) bs → AllByRecursion (λ b. length (corners_at p b.ring) ≤ 1) bs
    → times u (map (new_side p) (flat_map (λ b. corners_at p b.ring) bs)) + times u (sides_in bs) ≡ times u (flat_map (old_sides p) (flat_map (λ b. corners_at p b.ring) bs)) + times u (sides_in (map (dropped p) bs))
sides-dropped p u [] two few = refl
sides-dropped p u (b ∷ bs) two few =
    let C = corners_at p b.ring in
    let rest = flat_map (λ b. corners_at p b.ring) bs in
    let one = times-permuted u (map (new_side p) C ++ sides_of b.ring) (flat_map (old_sides p) C ++ sides_of (without p b.ring)) (sides-without p b.ring two.0 few.0) in
    let more = sides-dropped p u bs two.1 few.1 in
    let a1 = times-append u (map (new_side p) C) (sides_of b.ring) in
    let a2 = times-append u (flat_map (old_sides p) C) (sides_of (without p b.ring)) in
    let a3 = ap (times u) (map-append (new_side p) C rest) in
    let a4 = times-append u (map (new_side p) C) (map (new_side p) rest) in
    let a5 = ap (times u) (flat_map-append (old_sides p) C rest) in
    let a6 = times-append u (flat_map (old_sides p) C) (flat_map (old_sides p) rest) in
    let a7 = times-append u (sides_of b.ring) (sides_in bs) in
    let a8 = times-append u (sides_of (without p b.ring)) (sides_in (map (dropped p) bs)) in
    omega (arith, one, more, a1, a2, a3, a4, a5, a6, a7, a8)
