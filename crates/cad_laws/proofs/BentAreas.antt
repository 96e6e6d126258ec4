-- The sides and the area of a face whose rings go round by a point, and where they go straight.
use Rattle.std.proofs.Common.{◌≡◌, ◌≢◌, ℕ, ◌≤◌, ◌⊎◌, inl, inr, refl, sym, ap, subst, ◌∙◌, List, [], ◌∷◌, ◌++◌, length, map, Bool, true, false, cond, not, ℤ, pos, neg_ℤ, ◌+ℤ◌, ◌-ℤ◌, ◌==◌, true≢false, arith}
use Rattle.std.proofs.lemmas.Bool.{eqb-true, eq-eqb, false_from_ne_true}
use Rattle.std.proofs.lemmas.Int.{ints}
use Rattle.std.proofs.lemmas.List.Folds.{list_any-append}
use Rattle.std.proofs.lemmas.List.Sorted.{list_any-IsPermutation}
use Rattle.std.proofs.lemmas.List.Sums.{sum_by-append}
use Rattle.std.specs.Prelude.{IsPermutation, count_by, flat_map, ◌||◌, if◌then◌else◌}
use Rattle.std.specs.List.{AllByRecursion, Contains}
use Rattle.geo_exact.specs.Measure.{doubled_area, sum_over}
use Rattle.geo_exact.proofs.CallerLemmas.{doubled_area-odd}
use Rattle.cad_rows.specs.declared.names.Face.{Face}
use Rattle.cad_rings.specs.Cycle.{Ring, Side, is_side, has_side, sides_along, sides_of, Corner, corners_of, placed, ring_sum, times_through}
use Rattle.cad_rings.specs.Surgery.{corner, without}
use Rattle.cad_rings.proofs.CallerLemmas.{is_side-same, sum-append, sum-permuted, without-none}
use Rattle.cad_map.specs.declared.boundary.Boundary.{Boundary}
use Rattle.cad_map.specs.Boundaries.{is_face, sides_in}
use Rattle.cad_map.specs.Map.{Map, position_of, rings_at, rings_of, face_sides, sum_of_face, all_sides}
use Rattle.cad_map.specs.Rings.{HasWholeRings}
use Rattle.cad_map.specs.Touched.{GoesStraight}
use Rattle.cad_map.proofs.Boundaries.OrderedParts.{face_sides-canonical_order}
use Rattle.cad_map.proofs.CallerLemmas.{All-at_each, All-from_each, Contains-first, Contains-flat_map, Contains-in_part, corners_at, count-some, differs, dropped, face-ring, filter-Contains, has_side-Contains, is_side-refl, list_any-none, map-Contains, new_side, old_sides, once-from_pairs, sides-without, through-corners}
use Rattle.cad_laws.specs.Areas.{bend_at, bend_beside}
use Rattle.cad_laws.specs.Joining.{AreNotJoined}
use Rattle.cad_laws.proofs.MapCorners.{two-whole}
use Rattle.cad_laws.proofs.PlacedFaces.{map-same}

-- ---- Sides and their ends

-- sides whose ends differ
other_first : (s t : Side) → s.0 ≢ t.0 → is_side s t ≡ false
other_first s t other =
    false_from_ne_true (is_side s t)
    (λ is. other (ap (λ (u : Side). u.0) (is_side-same s t is)))

other_second : (s t : Side) → s.1 ≢ t.1 → is_side s t ≡ false
other_second s t other =
    false_from_ne_true (is_side s t)
    (λ is. other (ap (λ (u : Side). u.1) (is_side-same s t is)))

module _ (P : ℕ → Type 0) where
  -- both ends of a side have it
  abbrev BothEnds : Side → Type 0
  BothEnds s = P s.0 × P s.1

  both-along : (x : ℕ) (points : List ℕ) (z : ℕ) → P x → AllByRecursion P points → P z
      → AllByRecursion BothEnds (sides_along x points z)
  both-along x [] z first all last = ((first, last), tt)
  both-along x (y ∷ points) z first all last =
      ((first, all.0), both-along y points z all.0 all.1 last)

  -- what each point of a ring has, both ends of each side have
  both-ends : (ring : Ring) → AllByRecursion P ring → AllByRecursion BothEnds (sides_of ring)
  both-ends [] all = tt
  both-ends (x ∷ points) all = both-along x points x all.0 all.1 all.0

module _ (p : ℕ) (ring : Ring) where
  -- without the point, no side has it
  ends-away : AllByRecursion (BothEnds (λ q. q ≢ p)) (sides_of (without p ring))
  ends-away =
      both-ends (λ q. q ≢ p) (without p ring)
      (All-from_each (λ q. q ≢ p) (without p ring) (λ q h same.
      true≢false (sym (filter-Contains (λ q. not (q == p)) ring q h).1
      ∙ ap not (eq-eqb q p same))))

  none-at : (s : Side) → (s.0 ≡ p) ⊎ (s.1 ≡ p) → has_side s (sides_of (without p ring)) ≡ false
  none-at s at =
      list_any-none (is_side s) (sides_of (without p ring)) (λ t h.
      let away =
      All-at_each (BothEnds (λ q. q ≢ p)) (sides_of (without p ring)) t ends-away h in
      elim at [
        | inl e ↦ other_first s t (λ same. away.0 (sym same ∙ e))
        | inr e ↦ other_second s t (λ same. away.1 (sym same ∙ e))
      ])

-- ---- A ring with the point between x and y

module _ (p x y : ℕ) (x_other : x ≢ p) (y_other : y ≢ p) (ring : Ring)
    (gives : IsPermutation ((x, y) ∷ sides_of ring)
    ((x, p) ∷ (p, y) ∷ sides_of (without p ring))) where
  -- a side is one of the ring, or of the one without the point
  told : (s : Side) (u v w : Bool) → is_side s (x, y) ≡ u → is_side s (x, p) ≡ v
      → is_side s (p, y) ≡ w → (u || has_side s (sides_of ring))
      ≡ (v || (w || has_side s (sides_of (without p ring))))
  told s u v w e k l =
      sym (λ i. e i || has_side s (sides_of ring))
      ∙ list_any-IsPermutation (is_side s) ((x, y) ∷ sides_of ring)
      ((x, p) ∷ (p, y) ∷ sides_of (without p ring)) gives
      ∙ (λ i. k i || (l i || has_side s (sides_of (without p ring))))

  -- the ring has the two sides by the point, and without it the straight one
  has-into : has_side (x, p) (sides_of ring) ≡ true
  has-into =
      told (x, p) false true (is_side (x, p) (p, y))
      (other_second (x, p) (x, y) (λ e. y_other (sym e))) (is_side-refl (x, p)) refl

  has-from : has_side (p, y) (sides_of ring) ≡ true
  has-from =
      told (p, y) false false true (other_first (p, y) (x, y) (λ e. x_other (sym e)))
      (other_first (p, y) (x, p) (λ e. x_other (sym e))) (is_side-refl (p, y))

  has-straight : has_side (x, y) (sides_of (without p ring)) ≡ true
  has-straight =
      sym (told (x, y) true false false (is_side-refl (x, y))
      (other_second (x, y) (x, p) y_other) (other_first (x, y) (p, y) x_other))

  -- and where x and y are two points, none of them the other way
  module _ (apart : x ≢ y) where
    not-into : has_side (y, p) (sides_of ring) ≡ false
    not-into =
        told (y, p) false false false (other_second (y, p) (x, y) (λ e. y_other (sym e)))
        (other_first (y, p) (x, p) (λ e. apart (sym e))) (other_first (y, p) (p, y) y_other)
        ∙ none-at p ring (y, p) (inr refl)

    not-from : has_side (p, x) (sides_of ring) ≡ false
    not-from =
        told (p, x) false false false (other_first (p, x) (x, y) (λ e. x_other (sym e)))
        (other_first (p, x) (x, p) (λ e. x_other (sym e))) (other_second (p, x) (p, y) apart)
        ∙ none-at p ring (p, x) (inl refl)

    has-back : has_side (y, x) (sides_of ring) ≡ has_side (y, x) (sides_of (without p ring))
    has-back =
        told (y, x) false false false (other_first (y, x) (x, y) (λ e. apart (sym e)))
        (other_first (y, x) (x, p) (λ e. apart (sym e))) (other_first (y, x) (p, y) y_other)

  -- its area is that of the ring without the point, and the bend
  area-between : (m : Map) → ring_sum doubled_area (position_of m) ring
      ≡ ring_sum doubled_area (position_of m) (without p ring) +ℤ bend_at m p x y
  area-between m =
      let e =
      sum-permuted doubled_area (position_of m) ((x, y) ∷ sides_of ring)
      ((x, p) ∷ (p, y) ∷ sides_of (without p ring)) gives in
      omega (arith, ints, e)

-- the bend the other way, and where it goes back to the same point
bend-back : (m : Map) (p a b : ℕ) → bend_at m p b a ≡ neg_ℤ (bend_at m p a b)
bend-back m p a b =
    let one = doubled_area-odd (position_of m a) (position_of m p) in
    let other = doubled_area-odd (position_of m p) (position_of m b) in
    let between = doubled_area-odd (position_of m a) (position_of m b) in
    omega (arith, ints, one, other, between)

bend-none : (m : Map) (p a b : ℕ) → a ≡ b → bend_at m p a b ≡ pos 0
bend-none m p a b same =
    let back = bend-back m p a a in
    ap (λ (q : ℕ). bend_at m p a q) (sym same) ∙ omega (arith, ints, back)

-- ---- A ring of the map with the point

-- the number, where it counts
abbrev counted : Bool → ℤ → ℤ
counted t z = if t then z else pos 0

-- what a ring has more than without the point, and which of its sides stand for straight ones
record IsBent (m : Map) (p a b : ℕ) (ring : Ring) : Type 0 where
  area : ring_sum doubled_area (position_of m) ring
      ≡ ring_sum doubled_area (position_of m) (without p ring)
      +ℤ (counted (has_side (a, p) (sides_of ring)) (bend_at m p a b)
      -ℤ counted (has_side (p, a) (sides_of ring)) (bend_at m p a b))
  along : has_side (a, b) (sides_of ring) ≡ false
      → has_side (a, p) (sides_of ring) ≡ has_side (a, b) (sides_of (without p ring))
  against : has_side (b, a) (sides_of ring) ≡ false
      → has_side (p, a) (sides_of ring) ≡ has_side (b, a) (sides_of (without p ring))

module _ (m : Map) (p a b : ℕ) (a_other : a ≢ p) (b_other : b ≢ p) (ring : Ring) where
  -- a ring that doesn't pass the point
  past-bent : times_through p ring ≡ 0 → IsBent m p a b ring
  past-bent none = record {
    area = by (has_side (a, p) (sides_of ring)) (has_side (p, a) (sides_of ring))
        (missing (a, p) (inr refl)) (missing (p, a) (inl refl));
    along = λ not_there. missing (a, p) (inr refl) ∙ sym not_there
        ∙ ap (λ (r : Ring). has_side (a, b) (sides_of r)) (sym itself);
    against = λ not_there. missing (p, a) (inl refl) ∙ sym not_there
        ∙ ap (λ (r : Ring). has_side (b, a) (sides_of r)) (sym itself);
  }
    where
      itself : without p ring ≡ ring
      itself = without-none p ring none

      missing : (s : Side) → (s.0 ≡ p) ⊎ (s.1 ≡ p) → has_side s (sides_of ring) ≡ false
      missing s at =
          ap (λ (r : Ring). has_side s (sides_of r)) (sym itself) ∙ none-at p ring s at

      by : (u v : Bool) → u ≡ false → v ≡ false → ring_sum doubled_area (position_of m) ring
          ≡ ring_sum doubled_area (position_of m) (without p ring)
          +ℤ (counted u (bend_at m p a b) -ℤ counted v (bend_at m p a b))
      by false false e k =
          let same = ap (ring_sum doubled_area (position_of m)) itself in
          omega (arith, ints, same)
      by true v e k = absurd (true≢false e)
      by false true e k = absurd (true≢false k)

  -- with a bend that counts as the sides say
  of-sides : (u v : Bool) (z : ℤ) → has_side (a, p) (sides_of ring) ≡ u
      → has_side (p, a) (sides_of ring) ≡ v
      → ring_sum doubled_area (position_of m) ring
      ≡ ring_sum doubled_area (position_of m) (without p ring) +ℤ z
      → z ≡ counted u (bend_at m p a b) -ℤ counted v (bend_at m p a b)
      → ring_sum doubled_area (position_of m) ring
      ≡ ring_sum doubled_area (position_of m) (without p ring)
      +ℤ (counted (has_side (a, p) (sides_of ring)) (bend_at m p a b)
      -ℤ counted (has_side (p, a) (sides_of ring)) (bend_at m p a b))
  of-sides u v z into from is more =
      is ∙ (λ i. ring_sum doubled_area (position_of m) (without p ring) +ℤ more i)
      ∙ (λ i. ring_sum doubled_area (position_of m) (without p ring)
      +ℤ (counted (sym into i) (bend_at m p a b) -ℤ counted (sym from i) (bend_at m p a b)))

  -- one that goes from a by the point to b
  forth-bent : IsPermutation ((a, b) ∷ sides_of ring)
      ((a, p) ∷ (p, b) ∷ sides_of (without p ring)) → IsBent m p a b ring
  forth-bent gives = by (a == b) refl
    where
      into : has_side (a, p) (sides_of ring) ≡ true
      into = has-into p a b a_other b_other ring gives

      is : ring_sum doubled_area (position_of m) ring
          ≡ ring_sum doubled_area (position_of m) (without p ring) +ℤ bend_at m p a b
      is = area-between p a b a_other b_other ring gives m

      straight : has_side (a, b) (sides_of (without p ring)) ≡ true
      straight = has-straight p a b a_other b_other ring gives

      by : (t : Bool) → (a == b) ≡ t → IsBent m p a b ring
      by true e =
          let same = eqb-true a b e in
          let from : has_side (p, a) (sides_of ring) ≡ true =
          ap (λ (q : ℕ). has_side (p, q) (sides_of ring)) same
          ∙ has-from p a b a_other b_other ring gives in
          let none = bend-none m p a b same in
          record {
            area =
                of-sides true true (bend_at m p a b) into from is (omega (arith, ints, none));
            along = λ not_there. into ∙ sym straight;
            against = λ not_there. from ∙ sym straight
                ∙ (λ i. has_side (same i, sym same i) (sides_of (without p ring)));
          }
      by false e =
          let apart = differs a b e in
          let from = not-from p a b a_other b_other ring gives apart in
          let back = has-back p a b a_other b_other ring gives apart in
          record {
            area = of-sides true false (bend_at m p a b) into from is (omega (arith, ints));
            along = λ not_there. into ∙ sym straight;
            against = λ not_there. from ∙ sym not_there ∙ back;
          }

  -- and one that goes from b by the point to a, another point
  back-bent : a ≢ b → IsPermutation ((b, a) ∷ sides_of ring)
      ((b, p) ∷ (p, a) ∷ sides_of (without p ring)) → IsBent m p a b ring
  back-bent apart gives =
      let other = λ (e : b ≡ a). apart (sym e) in
      let into = not-into p b a b_other a_other ring gives other in
      let from = has-from p b a b_other a_other ring gives in
      let is = area-between p b a b_other a_other ring gives m in
      let turned = bend-back m p a b in
      record {
        area = of-sides false true (bend_at m p b a) into from is (omega (arith, ints, turned));
        along = λ not_there. into ∙ sym not_there
            ∙ has-back p b a b_other a_other ring gives other;
        against = λ not_there. from ∙ sym (has-straight p b a b_other a_other ring gives);
      }

  -- each ring that passes the point no more than once, between the two, is one of these
  ring-bent : 2 ≤ length ring → times_through p ring ≤ 1
      → ((c : Corner) → Contains (corners_of ring) c → c.at ≡ p
      → (c ≡ corner a p b) ⊎ (c ≡ corner b p a)) → IsBent m p a b ring
  ring-bent two once at_p = by (corners_at p ring) refl
    where
      few : length (corners_at p ring) ≤ 1
      few = let e = through-corners p ring two in omega (arith, e, once)

      sides-at : (x y : ℕ) → corners_at p ring ≡ corner x p y ∷ []
          → IsPermutation ((x, y) ∷ sides_of ring)
          ((x, p) ∷ (p, y) ∷ sides_of (without p ring))
      sides-at x y is =
          subst (λ (cs : List Corner). IsPermutation (map (new_side p) cs ++ sides_of ring)
          (flat_map (old_sides p) cs ++ sides_of (without p ring))) is
          (sides-without p ring two few)

      forth : corners_at p ring ≡ corner a p b ∷ [] → IsBent m p a b ring
      forth is = forth-bent (sides-at a b is)

      back : (t : Bool) → (a == b) ≡ t → corners_at p ring ≡ corner b p a ∷ []
          → IsBent m p a b ring
      back true e is =
          let same = eqb-true a b e in
          forth (is ∙ (λ i. corner (sym same i) p (same i) ∷ []))
      back false e is = back-bent (differs a b e) (sides-at b a is)

      by : (cs : List Corner) → corners_at p ring ≡ cs → IsBent m p a b ring
      by [] is = past-bent (through-corners p ring two ∙ ap (λ (l : List Corner). length l) is)
      by (c ∷ []) is =
          let here =
          filter-Contains (λ c. c.at == p) (corners_of ring) c
          (subst (λ (l : List Corner). Contains l c) (sym is) (Contains-first c [])) in
          elim (at_p c here.0 (eqb-true c.at p here.1)) [
            | inl e ↦ forth (is ∙ ap (λ (d : Corner). d ∷ []) e)
            | inr e ↦ back (a == b) refl (is ∙ ap (λ (d : Corner). d ∷ []) e)
          ]
      by (c ∷ d ∷ cs) is =
          let e = ap (λ (l : List Corner). length l) is in
          absurd (omega (arith, e, few))

-- ---- The rings of a face

-- a side that stands once counts in one of two parts
counted-append : (s : Side) (xs ys : List Side) (z : ℤ) → count_by (is_side s) (xs ++ ys) ≤ 1
    → counted (has_side s (xs ++ ys)) z
    ≡ counted (has_side s xs) z +ℤ counted (has_side s ys) z
counted-append s xs ys z once =
    ap (λ (t : Bool). counted t z) (list_any-append (is_side s) xs ys)
    ∙ by (has_side s xs) refl (has_side s ys) refl
  where
    by : (u : Bool) → has_side s xs ≡ u → (v : Bool) → has_side s ys ≡ v
        → counted (u || v) z ≡ counted u z +ℤ counted v z
    by true e true k =
        let here = count-some (is_side s) xs s (has_side-Contains s xs e) (is_side-refl s) in
        let too = count-some (is_side s) ys s (has_side-Contains s ys k) (is_side-refl s) in
        let parts = sum_by-append (λ (t : Side). cond (is_side s t) 1 0) xs ys in
        absurd (omega (arith, once, here, too, parts))
    by true e false k = omega (arith, ints)
    by false e v k = omega (arith, ints)

-- a face has a side no more often than all rings
face-few : (s : Side) (f : Face) (bs : List Boundary)
    → count_by (is_side s) (flat_map sides_of (rings_at f bs)) ≤ count_by (is_side s) (sides_in bs)
face-few s f [] = omega arith
face-few s f (b ∷ bs) = by (is_face f b.face) refl (face-few s f bs)
  where
    amount : Side → ℕ
    amount t = cond (is_side s t) 1 0

    by : (t : Bool) → is_face f b.face ≡ t
        → count_by (is_side s) (flat_map sides_of (rings_at f bs))
        ≤ count_by (is_side s) (sides_in bs)
        → count_by (is_side s) (flat_map sides_of (rings_at f (b ∷ bs)))
        ≤ count_by (is_side s) (sides_in (b ∷ bs))
    by true is rest =
        let e = sum_by-append amount (sides_of b.ring) (sides_in bs) in
        let k = sum_by-append amount (sides_of b.ring) (flat_map sides_of (rings_at f bs)) in
        rw is (omega (arith, e, k, rest))
    by false is rest =
        let e = sum_by-append amount (sides_of b.ring) (sides_in bs) in
        rw is (omega (arith, e, rest))

-- where each ring has a side that stands for one without the point, so have all of them
has-each : (p : ℕ) (s t : Side) (rings : List Ring)
    → AllByRecursion (λ r. has_side s (sides_of r) ≡ has_side t (sides_of (without p r))) rings
    → has_side s (flat_map sides_of rings)
    ≡ has_side t (flat_map sides_of (map (without p) rings))
has-each p s t [] each = refl
has-each p s t (r ∷ rings) each =
    list_any-append (is_side s) (sides_of r) (flat_map sides_of rings)
    ∙ (λ i. each.0 i || has-each p s t rings each.1 i)
    ∙ sym (list_any-append (is_side t) (sides_of (without p r))
    (flat_map sides_of (map (without p) rings)))

-- the face's rings without the point, and those of the face among all without it
rings-without : (p : ℕ) (f : Face) (bs : List Boundary)
    → rings_at f (map (dropped p) bs) ≡ map (without p) (rings_at f bs)
rings-without p f [] = refl
rings-without p f (b ∷ bs) = by (is_face f b.face) refl (rings-without p f bs)
  where
    by : (t : Bool) → is_face f b.face ≡ t
        → rings_at f (map (dropped p) bs) ≡ map (without p) (rings_at f bs)
        → rings_at f (map (dropped p) (b ∷ bs)) ≡ map (without p) (rings_at f (b ∷ bs))
    by true is rest = rw is (ap (λ (l : List Ring). without p b.ring ∷ l) rest)
    by false is rest = rw is rest

module _ (m : Map) (p a b : ℕ) where
  -- the area that the sides of these rings have more than without the point
  area-rings : (rings : List Ring) → AllByRecursion (IsBent m p a b) rings
      → count_by (is_side (a, p)) (flat_map sides_of rings) ≤ 1
      → count_by (is_side (p, a)) (flat_map sides_of rings) ≤ 1
      → sum_over doubled_area (placed (position_of m) (flat_map sides_of rings))
      ≡ sum_over doubled_area
      (placed (position_of m) (flat_map sides_of (map (without p) rings)))
      +ℤ (counted (has_side (a, p) (flat_map sides_of rings)) (bend_at m p a b)
      -ℤ counted (has_side (p, a) (flat_map sides_of rings)) (bend_at m p a b))
  area-rings [] each into from = refl
  area-rings (r ∷ rings) each into from =
      let position = position_of m in
      let rest = flat_map sides_of rings in
      let left = flat_map sides_of (map (without p) rings) in
      let amount : Side → Side → ℕ = λ s t. cond (is_side s t) 1 0 in
      let few_into = sum_by-append (amount (a, p)) (sides_of r) rest in
      let few_from = sum_by-append (amount (p, a)) (sides_of r) rest in
      let more =
      area-rings rings each.1 (omega (arith, into, few_into)) (omega (arith, from, few_from)) in
      let here = each.0.area in
      let with_it = sum-append doubled_area position (sides_of r) rest in
      let without_it = sum-append doubled_area position (sides_of (without p r)) left in
      let one = counted-append (a, p) (sides_of r) rest (bend_at m p a b) into in
      let other = counted-append (p, a) (sides_of r) rest (bend_at m p a b) from in
      omega (arith, ints, more, here, with_it, without_it, one, other)

-- ---- The two maps

module _ (bent straight : Map) (p a b : ℕ) (f : Face) (whole : HasWholeRings bent)
    (goes : GoesStraight bent straight p a b) where
  -- the sides that are left of the face's rings without the point
  abbrev left : List Side
  left = flat_map sides_of (map (without p) (rings_of bent f))

  -- are those that the face has where the map goes straight
  left-straight : IsPermutation left (face_sides straight f)
  left-straight =
      subst (λ (l : List Ring). IsPermutation (flat_map sides_of l) (face_sides straight f))
      (rings-without p f bent.boundaries)
      (subst (λ (bs : List Boundary).
      IsPermutation (flat_map sides_of (rings_at f (map (dropped p) bent.boundaries)))
      (flat_map sides_of (rings_at f bs))) goes.boundaries
      (face_sides-canonical_order f (map (dropped p) bent.boundaries)))

  -- and their ends lie alike in both maps
  left-placed : placed (position_of bent) left ≡ placed (position_of straight) left
  left-placed =
      map-same (λ (s : Side). (position_of bent s.0, position_of bent s.1))
      (λ (s : Side). (position_of straight s.0, position_of straight s.1)) left
      (λ s h.
      let part = Contains-in_part sides_of (map (without p) (rings_of bent f)) s h in
      let ring = map-Contains (without p) (rings_of bent f) part.0 part.1 in
      let away =
      All-at_each (BothEnds (λ q. q ≢ p)) (sides_of (without p ring.0)) s
      (ends-away p ring.0)
      (subst (λ (r : Ring). Contains (sides_of r) s) (sym ring.2) part.2) in
      λ i. (sym (goes.elsewhere s.0 away.0) i, sym (goes.elsewhere s.1 away.1) i))

  -- each ring of the face
  each-bent : (r : Ring) → Contains (rings_of bent f) r → IsBent bent p a b r
  each-bent r h =
      let ring = face-ring bent f r h in
      let c = ring.0 in
      subst (IsBent bent p a b) ring.3
      (ring-bent bent p a b goes.first_other goes.second_other c.ring
      (All-at_each (λ b. 2 ≤ length b.ring) bent.boundaries c (two-whole bent whole) ring.1)
      (goes.once c ring.1) (λ d k at.
      goes.corners d
      (Contains-flat_map (λ (b : Boundary). corners_of b.ring) bent.boundaries c d ring.1 k)
      at))

  -- a face has a side once at most
  once-beside : (s : Side) → count_by (is_side s) (face_sides bent f) ≤ 1
  once-beside s =
      let few = face-few s f bent.boundaries in
      let one = once-from_pairs (all_sides bent) whole.once s in
      omega (arith, few, one)

  -- a side that no ring has
  not-there : (s : Side) → (¬ Contains (all_sides bent) s) → (r : Ring)
      → Contains (rings_of bent f) r → has_side s (sides_of r) ≡ false
  not-there s none r h =
      false_from_ne_true (has_side s (sides_of r)) (λ has.
      let ring = face-ring bent f r h in
      none (Contains-flat_map (λ (b : Boundary). sides_of b.ring) bent.boundaries ring.0 s
      ring.1
      (subst (λ (l : Ring). Contains (sides_of l) s) (sym ring.3)
      (has_side-Contains s (sides_of r) has))))

  -- twice the area by the point is that of the straight way, and the bend
  pub area-bent : sum_of_face doubled_area bent f
      ≡ sum_of_face doubled_area straight f +ℤ bend_beside bent f p a b
  area-bent =
      area-rings bent p a b (rings_of bent f)
      (All-from_each (IsBent bent p a b) (rings_of bent f) each-bent)
      (once-beside (a, p)) (once-beside (p, a))
      ∙ ap (λ (z : ℤ). z +ℤ bend_beside bent f p a b)
      (ap (sum_over doubled_area) left-placed
      ∙ sum-permuted doubled_area (position_of straight) left (face_sides straight f)
      left-straight)

  -- a side to the point stands for the one from a to b
  pub along-bent : AreNotJoined bent a b
      → has_side (a, p) (face_sides bent f) ≡ has_side (a, b) (face_sides straight f)
  along-bent apart =
      has-each p (a, p) (a, b) (rings_of bent f)
      (All-from_each _ (rings_of bent f) (λ r h.
      (each-bent r h).along (not-there (a, b) apart.forth r h)))
      ∙ list_any-IsPermutation (is_side (a, b)) left (face_sides straight f) left-straight

  -- and one from the point for the one from b to a
  pub against-bent : AreNotJoined bent a b
      → has_side (p, a) (face_sides bent f) ≡ has_side (b, a) (face_sides straight f)
  against-bent apart =
      has-each p (p, a) (b, a) (rings_of bent f)
      (All-from_each _ (rings_of bent f) (λ r h.
      (each-bent r h).against (not-there (b, a) apart.back r h)))
      ∙ list_any-IsPermutation (is_side (b, a)) left (face_sides straight f) left-straight
