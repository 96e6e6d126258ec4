-- What tests of rays and of held points tell of the triangles that a moved point's strings swept.
use Rattle.std.proofs.Common.{◌≡◌, ◌≢◌, ◌⊎◌, ℕ, ℤ, pos, ◌+◌, ◌≤ℤ◌, ◌<ℤ◌, inl, inr, refl, sym, ap, subst, ◌∙◌, List, [], ◌∷◌, map, take, length, Some, Bool, true, false, not, true≢false, ◌==◌, arith}
use Rattle.std.proofs.lemmas.Bool.{and_parts, and_from, or_left, or_right}
use Rattle.std.proofs.lemmas.Int.{ints}
use Rattle.std.proofs.lemmas.List.Sorted.{Contains-permutation}
use Rattle.std.specs.Prelude.{slice_get, int_lt, ◌||◌, ◌&&◌}
use Rattle.std.specs.Ordering.{int_eq}
use Rattle.std.specs.List.{AllByRecursion, Contains, list_all}
use Rattle.geo_exact.specs.Orientation.{orientation}
use Rattle.geo_exact.specs.Position.{Position}
use Rattle.geo_exact.specs.SignTest.{boxes_overlap}
use Rattle.geo_exact.specs.Triangle.{is_outside}
use Rattle.geo_exact.proofs.CallerLemmas.{IsBeyond, outside-of_box}
use Rattle.cad_rows.specs.declared.rows.PointRow.{PointRow}
use Rattle.cad_rows.specs.declared.rows.StringRow.{StringRow}
use Rattle.cell_grid.specs.Grid.{Grid}
use Rattle.cad_map.specs.Map.{Map, degree, far_end, is_end, position_of, strings_at}
use Rattle.cad_map.specs.Touched.{Moved}
use Rattle.cad_map.specs.Valid.{EachPair}
use Rattle.cad_map.proofs.CallerLemmas.{All-at_each, All-follows, Contains-cases, Contains-first, Contains-map, EachPair-join, list_all-at, list_all-from, take-more}
use Rattle.cad_near.specs.declared.rays.Ray.{Ray}
use Rattle.cad_near.specs.declared.seen.Reach.{Reach}
use Rattle.cad_near.specs.Near.{HoldsMap}
use Rattle.cad_near.specs.Rays.{AreRaysOf, ray_of}
use Rattle.cad_near.specs.Seen.{IsInReach}
use Rattle.cad_near.specs.Triangles.{AreSeenClear, LeadApart, MovesClear, SweepsClear, has_area, is_beyond, is_past_ray, is_past_three, is_seen_outside}
use Rattle.cad_near.proofs.MovedSides.{outside}
use Rattle.cad_near.proofs.Candidates.{second-of}

-- one element more, which has the relation to each before it
pub one_more_pair : {X : Type 0} (R : X → X → Type 0) (xs : List X) (k : ℕ) (x : X) → slice_get xs k ≡ Some x → EachPair R (take k xs) → AllByRecursion (λ e. R e x) (take k xs)
    → EachPair R (take (k + 1) xs)
one_more_pair R xs k x at each here =
    subst (EachPair R) (take-more xs k x at)
    (EachPair-join R (take k xs) (x ∷ []) each (tt, tt) (All-follows (λ e. R e x) (λ e. AllByRecursion (R e) (x ∷ [])) (λ e h. (h, tt)) (take k xs) here))

-- ---- Positions that are seen outside

-- of two tests one passed
either : (a b : Bool) → (a || b) ≡ true → (a ≡ true) ⊎ (b ≡ true)
either true b passed = inl refl
either false b passed = inr passed

-- less by the test
less_from : (x y : ℤ) → int_lt x y ≡ true → x <ℤ y
less_from x y is = grind (arith, ints, is)

-- and the test from that
less : (x y : ℤ) → x <ℤ y → int_lt x y ≡ true
less x y is = grind (arith, ints, is)

module _ (x y z : Bool) where
  -- three tests of which all passed
  three : (x && y && z) ≡ true → (x ≡ true) × (y ≡ true) × (z ≡ true)
  three passed = let first = and_parts (x && y) z passed in let two = and_parts x y first.0 in (two.0, two.1, first.1)

  -- all pass where each does
  from-three : x ≡ true → y ≡ true → z ≡ true → (x && y && z) ≡ true
  from-three h k l = and_from (x && y) z (and_from x y h k) l

module _ (q a b r : Position) where
  -- what is seen beyond is
  beyond : is_beyond q a b r ≡ true → IsBeyond q a b r
  unfolding is_beyond is_past_three
  beyond is = elim (either (is_past_three q.x a.x b.x r.x) (is_past_three q.y a.y b.y r.y) is) [
    | inl along ↦ elim (either _ _ along) [
      | inl more ↦ let h = three (int_lt q.x r.x) (int_lt a.x r.x) (int_lt b.x r.x) more in IsBeyond.east (less_from q.x r.x h.0) (less_from a.x r.x h.1) (less_from b.x r.x h.2)
      | inr few ↦ let h = three (int_lt r.x q.x) (int_lt r.x a.x) (int_lt r.x b.x) few in IsBeyond.west (less_from r.x q.x h.0) (less_from r.x a.x h.1) (less_from r.x b.x h.2)
    ]
    | inr along ↦ elim (either _ _ along) [
      | inl more ↦ let h = three (int_lt q.y r.y) (int_lt a.y r.y) (int_lt b.y r.y) more in IsBeyond.north (less_from q.y r.y h.0) (less_from a.y r.y h.1) (less_from b.y r.y h.2)
      | inr few ↦ let h = three (int_lt r.y q.y) (int_lt r.y a.y) (int_lt r.y b.y) few in IsBeyond.south (less_from r.y q.y h.0) (less_from r.y a.y h.1) (less_from r.y b.y h.2)
    ]
  ]

  -- what is seen outside of a triangle with area is
  seen-outside : orientation q a b ≢ pos 0 → is_seen_outside q a b r ≡ true → is_outside q a b r ≡ true
  seen-outside some is = elim (either (is_beyond q a b r) (is_outside q a b r) is) [
    | inl away ↦ outside-of_box q a b r (beyond away) some
    | inr out ↦ out
  ]

-- a coordinate past those of a stretch is past three in it
past-low : (low q a b r : ℤ) → r <ℤ low → low ≤ℤ q → low ≤ℤ a → low ≤ℤ b → is_past_three q a b r ≡ true
unfolding is_past_three
past-low low q a b r out hq ha hb =
    or_right (int_lt q r && int_lt a r && int_lt b r) _
    (from-three (int_lt r q) (int_lt r a) (int_lt r b) (less r q (omega (arith, ints))) (less r a (omega (arith, ints))) (less r b (omega (arith, ints))))

-- on the other side, too
past-high : (high q a b r : ℤ) → high <ℤ r → q ≤ℤ high → a ≤ℤ high → b ≤ℤ high → is_past_three q a b r ≡ true
unfolding is_past_three
past-high high q a b r out hq ha hb =
    or_left _ (int_lt r q && int_lt r a && int_lt r b)
    (from-three (int_lt q r) (int_lt a r) (int_lt b r) (less q r (omega (arith, ints))) (less a r (omega (arith, ints))) (less b r (omega (arith, ints))))

module _ (reach : Reach) (at from : Position) (at_in : IsInReach reach at) (from_in : IsInReach reach from) where
  -- what lies outside of the box is past a ray
  far-ray : (n : ℕ) (q : Position) (r : Ray) → IsInReach reach r.position → boxes_overlap reach.low reach.high q q ≡ false → is_past_ray from at (record { point = n; position = q }) r ≡ true
  unfolding is_beyond
  far-ray n q r r_in apart =
      or_right (r.far == n) _ (or_left _ (is_outside r.position from at q) (elim (outside reach at from at_in from_in q apart) [
        | inl left ↦ or_left _ (is_past_three r.position.y from.y at.y q.y) (past-low reach.low.x r.position.x from.x at.x q.x left r_in.left from_in.left at_in.left)
        | inr (inl below) ↦ or_right (is_past_three r.position.x from.x at.x q.x) _ (past-low reach.low.y r.position.y from.y at.y q.y below r_in.bottom from_in.bottom at_in.bottom)
        | inr (inr (inl above)) ↦ or_right (is_past_three r.position.x from.x at.x q.x) _ (past-high reach.high.y r.position.y from.y at.y q.y above r_in.top from_in.top at_in.top)
        | inr (inr (inr right)) ↦ or_left _ (is_past_three r.position.y from.y at.y q.y) (past-high reach.high.x r.position.x from.x at.x q.x right r_in.right from_in.right at_in.right)
      ]))

  -- and past all whose far ends lie in the box
  pub far-past : (rays : List Ray) → AllByRecursion (λ r. IsInReach reach r.position) rays → (n : ℕ) (q : Position) → boxes_overlap reach.low reach.high q q ≡ false
      → list_all (is_past_ray from at (record { point = n; position = q })) rays ≡ true
  far-past rays all n q apart =
      list_all-from (is_past_ray from at (record { point = n; position = q })) rays
      (λ r there. far-ray n q r (All-at_each (λ (r : Ray). IsInReach reach r.position) rays r all there) apart)

-- ---- Rays and strings

-- a list that isn't empty has an element
some-element : {X : Type 0} (xs : List X) → length xs ≢ 0 → (x : X) × Contains xs x
some-element [] some = absurd (some refl)
some-element (x ∷ xs) some = (x, Contains-first x xs)

module _ (m : Map) (p : ℕ) where
  -- strings whose rays lead to different points
  strings-apart : (strings : List StringRow) → EachPair LeadApart (map (ray_of m p) strings) → (s t : StringRow) → Contains strings s → Contains strings t → far_end s p ≡ far_end t p → s ≡ t
  strings-apart [] each s t h k same = let low = h.1 in absurd (omega arith)
  strings-apart (x ∷ xs) each s t h k same = elim (Contains-cases x xs s h) [
    | inl first ↦ elim (Contains-cases x xs t k) [
      | inl too ↦ sym first ∙ too
      | inr later ↦ absurd (apart t later (ap (λ (r : StringRow). far_end r p) first ∙ same))
    ]
    | inr there ↦ elim (Contains-cases x xs t k) [
      | inl first ↦ absurd (apart s there (ap (λ (r : StringRow). far_end r p) first ∙ sym same))
      | inr later ↦ strings-apart xs each.1 s t there later same
    ]
  ]
    where
      apart : (r : StringRow) → Contains xs r → far_end x p ≢ far_end r p
      apart r r_there = All-at_each (LeadApart (ray_of m p x)) (map (ray_of m p) xs) (ray_of m p r) each.0 (Contains-map (ray_of m p) xs r r_there)

module _ (m : Map) (g : Grid) (held : HoldsMap g m) (v : Moved) (rays : List Ray) (are : AreRaysOf m v.point rays) (seen : AreSeenClear g v (position_of m v.point) rays) where
  abbrev at : Position
  at = position_of m v.point

  -- the ray along a string is one of them
  ray-there : (s : StringRow) → Contains (strings_at m v.point) s → Contains rays (ray_of m v.point s)
  ray-there s there =
      subst (λ (l : List Ray). Contains l (ray_of m v.point s)) (sym are.seen)
      (Contains-map (ray_of m v.point) are.strings s (Contains-permutation (strings_at m v.point) are.strings s are.each there))

  -- its triangle has area, with other points outside
  sweeps : (s : StringRow) → Contains (strings_at m v.point) s → SweepsClear m v s
  sweeps s there = record { area = area; points = points }
    where
      ray : Ray
      ray = ray_of m v.point s

      area : orientation ray.position v.from at ≢ pos 0
      area none = not-zero (orientation ray.position v.from at) none (list_all-at (has_area v.from at) rays ray seen.area (ray-there s there))
        where
          not-zero : (z : ℤ) → z ≡ pos 0 → not (int_eq z (pos 0)) ≡ true → ⊥
          not-zero z e is = true≢false (sym is ∙ ap (λ (z : ℤ). not (int_eq z (pos 0))) e)

      points : (r : PointRow) → Contains m.points r → r.number ≢ v.point → r.number ≢ far_end s v.point → is_outside ray.position v.from at r.position ≡ true
      points r r_there other other_far =
          seen-outside ray.position v.from at r.position area
          (second-of {k = far_end s v.point} {n = r.number} (λ is. other_far (sym is))
          (list_all-at (is_past_ray v.from at (record { point = r.number; position = r.position })) rays ray (seen.points r.number r.position (held.points r r_there) other) (ray-there s there)))

  -- so the point moves clear, where no string comes near its way
  pub moves-clear : degree m v.point ≢ 0
      → ((s : StringRow) → Contains m.strings s → is_end s v.point ≡ false → boxes_overlap v.from at (position_of m s.from) (position_of m s.to) ≡ false) → MovesClear m v
  moves-clear some way = record {
    some = some-element (strings_at m v.point) some;
    apart = λ s t h k. strings-apart m v.point are.strings (subst (EachPair LeadApart) are.seen seen.apart) s t
        (Contains-permutation (strings_at m v.point) are.strings s are.each h) (Contains-permutation (strings_at m v.point) are.strings t are.each k);
    strings = sweeps;
    way = way;
  }
