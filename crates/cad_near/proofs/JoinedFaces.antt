-- A join that is seen to leave rings as they were keeps what their faces tell.
use Rattle.std.proofs.Common.{◌≡◌, ◌≢◌, ◌⊎◌, inl, inr, ℕ, ◌≤◌, refl, sym, ap, subst, ◌∙◌, List, [], ◌∷◌, length, map, Bool, true, false, not, ℤ, pos, ◌+ℤ◌, ◌&&◌, ◌||◌, ◌==◌, true≢false, arith}
use Rattle.std.proofs.lemmas.Bool.{eq-eqb}
use Rattle.std.proofs.lemmas.Int.{ints}
use Rattle.std.proofs.lemmas.List.Sorted.{Contains-permutation}
use Rattle.std.specs.Prelude.{IsPermutation, int_lt}
use Rattle.std.specs.List.{Contains}
use Rattle.geo_exact.specs.Position.{Position}
use Rattle.geo_exact.specs.Measure.{doubled_area}
use Rattle.cad_rows.specs.declared.names.Face.{Face}
use Rattle.cad_rings.specs.Canonical.{least_rotation}
use Rattle.cad_rings.specs.Cycle.{Ring, Side, Corner, sides_of, ring_sum, anchor_of, times_through}
use Rattle.cad_rings.specs.Surgery.{corner, without}
use Rattle.cad_rings.proofs.CallerLemmas.{IsSameRing-least_rotation, round_permuted, anchor_of-at_most, anchor_of-Contains, anchor_of-least_rotation, ring_sum-same, ring_sum-same_ring, sides_of-same, sum-permuted}
use Rattle.cad_map.specs.declared.boundary.Boundary.{Boundary}
use Rattle.cad_map.specs.Boundaries.{bounding, canonical_form}
use Rattle.cad_map.specs.Map.{Map, far_end, position_of}
use Rattle.cad_map.specs.Rings.{HasWholeRings}
use Rattle.cad_map.specs.Touched.{Moved, Joined, GoesStraight, ComesByJoin}
use Rattle.cad_map.proofs.CallerLemmas.{All-at_each, All-from_each, Contains-cases, Contains-first, Contains-map, IsPermutation-canonical_order, corners_at, count-some, first_points, through-corners}
use Rattle.cad_near.specs.Joins.{area_of_bend, TurnsRound, TurnsAlong, SeesAlike, LeavesJoined}
use Rattle.cad_near.specs.declared.rays.Ray.{Ray}
use Rattle.cad_near.specs.Moves.{is_counted_anew, goes_past_alike, position_before, TurnsAsBefore, GoesPastPoint, LeavesRings}
use Rattle.cad_near.proofs.MovedRings.{point-there, side-out}
use Rattle.cad_near.proofs.RowsByNumber.{row-of}
use Rattle.cad_near.proofs.StraightFaces.{two, from-one, pass, in-without, stays-in, area}
use Rattle.cad_near.proofs.StraightRings.{Passing, sides-straight}

-- a ring with a side has points
some-points : (ring : Ring) (s : Side) → Contains (sides_of ring) s → 1 ≤ length ring
some-points [] s h = let low = h.1 in absurd (omega arith)
some-points (a ∷ points) s h = omega arith

module _ (old new : Map) (j : Joined) (comes : ComesByJoin old new j) (whole : HasWholeRings old) (whole_new : HasWholeRings new) (f : Face) (leaves : LeavesJoined new f j) where
  abbrev p : ℕ
  p = j.point

  abbrev goes : GoesStraight old new p j.first j.second
  goes = comes.straight

  abbrev v : Moved
  v = record { point = p; from = position_of old j.first }

  -- ---- Each ring in the new map

  abbrev dropped : Boundary → Boundary
  dropped b = bounding b.face (without p b.ring)

  -- without the point it is a ring of the new map
  there-new : (b : Boundary) → Contains old.boundaries b → Contains new.boundaries (canonical_form (dropped b))
  there-new b h =
      subst (λ (bs : List Boundary). Contains bs (canonical_form (dropped b))) goes.boundaries
      (Contains-permutation (map canonical_form (map dropped old.boundaries)) _ (canonical_form (dropped b))
      (IsPermutation-canonical_order (map dropped old.boundaries))
      (Contains-map canonical_form (map dropped old.boundaries) (dropped b) (Contains-map dropped old.boundaries b h)))

  sum-new : (ring : Ring) → ring_sum doubled_area (position_of new) (least_rotation (without p ring)) ≡ ring_sum doubled_area (position_of new) (without p ring)
  sum-new ring = sym (ring_sum-same_ring doubled_area (position_of new) (without p ring) (least_rotation (without p ring)) (IsSameRing-least_rotation (without p ring)))

  -- and as it lay but for the point
  sum-old : (ring : Ring) → ring_sum doubled_area (position_of old) (without p ring) ≡ ring_sum doubled_area (position_of new) (without p ring)
  sum-old ring = sym (ring_sum-same doubled_area (position_of new) (position_of old) (without p ring)
      (All-from_each (λ q. position_of new q ≡ position_of old q) (without p ring) (λ q h. goes.elsewhere q (in-without p ring q h).1)))

  -- ---- A ring with the point between x and y

  module _ (x y : ℕ) (x_other : x ≢ p) (y_other : y ≢ p) (turns : TurnsAlong new f j (x, y)) (b : Boundary) (there : Contains old.boundaries b) (own : f ≡ b.face) (is : corners_at p b.ring ≡ corner x p y ∷ []) where
    abbrev w : Ring
    w = without p b.ring

    straight : IsPermutation ((x, y) ∷ sides_of b.ring) ((x, p) ∷ (p, y) ∷ sides_of w)
    straight = sides-straight p b.ring (two old new p j.first j.second goes whole b there) (goes.once b there) x y is

    goes-along : Contains (sides_of w) (x, y)
    goes-along = elim (Contains-cases (x, p) ((p, y) ∷ sides_of w) (x, y) (Contains-permutation ((x, y) ∷ sides_of b.ring) ((x, p) ∷ (p, y) ∷ sides_of w) (x, y) straight (Contains-first (x, y) (sides_of b.ring)))) [
      | inl e ↦ absurd (y_other (sym (ap (λ (s : Side). s.1) e)))
      | inr later ↦ elim (Contains-cases (p, y) (sides_of w) (x, y) later) [
        | inl e ↦ absurd (x_other (sym (ap (λ (s : Side). s.0) e)))
        | inr h ↦ h
      ]
    ]

    round : TurnsRound new j (x, y) (least_rotation w)
    round = turns (canonical_form (dropped b)) (there-new b there) own
        (Contains-permutation (sides_of w) (sides_of (least_rotation w)) (x, y) (sides_of-same w (least_rotation w) (IsSameRing-least_rotation w)) goes-along)

    -- its area is that of the ring in the new map, and the corner's
    area-old : ring_sum doubled_area (position_of old) b.ring ≡ ring_sum doubled_area (position_of new) (least_rotation w) +ℤ area_of_bend (position_of new x) j.position (position_of new y)
    area-old =
        let e = sum-permuted doubled_area (position_of old) ((x, y) ∷ sides_of b.ring) ((x, p) ∷ (p, y) ∷ sides_of w) straight in
        let k = sum-old b.ring ∙ sym (sum-new b.ring) in
        let at_x = goes.elsewhere x x_other in
        let at_y = goes.elsewhere y y_other in
        let here : ring_sum doubled_area (position_of old) b.ring ≡ ring_sum doubled_area (position_of new) (least_rotation w) +ℤ area_of_bend (position_of old x) (position_of old p) (position_of old y) = omega (arith, ints, e, k) in
        here ∙ (λ i. ring_sum doubled_area (position_of new) (least_rotation w) +ℤ area_of_bend (sym at_x i) (comes.lay i) (sym at_y i))

    -- and where it lay at the first of the two, that of the ring in the new map
    area-laid : ring_sum doubled_area (position_before (position_of old) v) b.ring ≡ ring_sum doubled_area (position_of new) (least_rotation w)
    area-laid = area old new p j.first j.second (position_of old j.first) goes refl whole b there ∙ sym (sum-new b.ring)

    pub turns-as_before : TurnsAsBefore old v false b.ring
    turns-as_before = record {
      positive = ap (int_lt (pos 0)) area-old ∙ sym round.positive ∙ ap (int_lt (pos 0)) (sym area-laid);
      negative = ap (λ (z : ℤ). int_lt z (pos 0)) area-old ∙ sym round.negative ∙ ap (λ (z : ℤ). int_lt z (pos 0)) (sym area-laid);
      anchor = inr (λ at.
          let some = some-points w (x, y) goes-along in
          let among = (in-without p b.ring (anchor_of w) (anchor_of-Contains w some)).0 in
          let least = All-at_each (λ q. anchor_of b.ring ≤ q) b.ring (anchor_of w) (anchor_of-at_most b.ring) among in
          let less = round.anchor in
          let same = anchor_of-least_rotation w in
          omega (arith, at, least, less, same));
    }

  -- ---- All of it

  -- a side leaves the point only where a ring passes it
  passes : (b : Boundary) → (to : ℕ) → Contains {X = Side} (sides_of b.ring) (p, to) → 1 ≤ times_through p b.ring
  passes b to h =
      count-some (λ q. q == p) b.ring p
      (subst (λ (l : List ℕ). Contains l p) (first_points b.ring) (Contains-map (λ (s : Side). s.0) (sides_of b.ring) (p, to) h))
      (eq-eqb p p refl)

  turns-along : (to : ℕ) → (b : Boundary) → Contains old.boundaries b → f ≡ b.face → Contains {X = Side} (sides_of b.ring) (p, to) → TurnsAsBefore old v false b.ring
  turns-along to b there own has = by (pass old new p j.first j.second goes whole b there)
    where
      by : Passing p j.first j.second b.ring → TurnsAsBefore old v false b.ring
      by (Passing.past is) =
          let some = passes b to has in
          let none = through-corners p b.ring (two old new p j.first j.second goes whole b there) ∙ ap (λ (l : List Corner). length l) is in
          absurd (omega (arith, some, none))
      by (Passing.forth is) = turns-as_before j.first j.second goes.first_other goes.second_other leaves.forth b there own is
      by (Passing.back is) = turns-as_before j.second j.first goes.second_other goes.first_other leaves.back b there own is

  goes-past : (b : Boundary) → Contains old.boundaries b → (n : ℕ) → Contains b.ring n → n ≢ p → GoesPastPoint old f v n
  goes-past b there n h other =
      let c = canonical_form (dropped b) in
      let in_new = point-there new whole_new c (there-new b there) n (in-turned (without p b.ring) n (stays-in p b.ring n h other)) in
      let r = row-of new n in_new in
      let seen = leaves.points r.row r.there (λ same. other (sym r.number ∙ same)) in
      let q : r.row.position ≡ position_of old n = r.position ∙ goes.elsewhere n other in
      let each : (x : ℕ) → (x ≡ j.first) ⊎ (x ≡ j.second) → is_counted_anew (position_of old p) (position_of old j.first) (position_of old n) (position_of old x) ≡ seen.anew =
      λ x which. elim which [
        | inl e ↦ same-seen x j.first e goes.first_other r.row.position n q seen.anew seen.first
        | inr e ↦ same-seen x j.second e goes.second_other r.row.position n q seen.anew seen.second
      ] in
      inl (seen.anew, λ s k. each (far_end s p) (from-one old new p j.first j.second goes whole (far_end s p) (side-out old whole p s k).1))
    where
      in-turned : (ring : Ring) (n : ℕ) → Contains ring n → Contains (least_rotation ring) n
      in-turned ring n h =
          let same = IsSameRing-least_rotation ring in
          subst (λ (r : Ring). Contains r n) (sym same.is) (Contains-permutation ring _ n (round_permuted same.place ring) h)

      same-seen : (x e : ℕ) → x ≡ e → e ≢ p → (at : Position) (n : ℕ) → at ≡ position_of old n → (anew : Bool) → is_counted_anew j.position (position_of new j.first) at (position_of new e) ≡ anew
          → is_counted_anew (position_of old p) (position_of old j.first) (position_of old n) (position_of old x) ≡ anew
      same-seen x e is other at n q anew seen =
          (λ i. is_counted_anew (comes.lay i) (sym (goes.elsewhere j.first goes.first_other) i) (sym q i) ((ap (position_of old) is ∙ sym (goes.elsewhere e other)) i)) ∙ seen

  pub left-by_join : LeavesRings old f v
  left-by_join = record { clear = false; goes_clear = λ is. absurd (true≢false (sym is)); rings = λ s h. turns-along (far_end s p); points = goes-past }

-- ---- What was seen of a point

-- the tests of the two ends are what the point sees
pub sees-alike : (m : Map) (j : Joined) (q at first second : Position) (rays : List Ray) → rays ≡ record { far = j.first; position = first } ∷ record { far = j.second; position = second } ∷ []
    → at ≡ j.position → first ≡ position_of m j.first → second ≡ position_of m j.second → goes_past_alike at first rays q ≡ true → SeesAlike m j q
sees-alike m j q at first second rays are at_is first_is second_is is =
    by (is_counted_anew at first q first) refl (is_counted_anew at first q second) refl (subst (λ (l : List Ray). goes_past_alike at first l q ≡ true) are is)
  where
    here : (x : ℕ) (z : Position) → z ≡ position_of m x → is_counted_anew at first q z ≡ is_counted_anew j.position (position_of m j.first) q (position_of m x)
    here x z e = λ i. is_counted_anew (at_is i) (first_is i) q (e i)

    given : (anew : Bool) → is_counted_anew at first q first ≡ anew → is_counted_anew at first q second ≡ anew → SeesAlike m j q
    given anew one other = record { anew = anew; first = sym (here j.first first first_is) ∙ one; second = sym (here j.second second second_is) ∙ other }

    by : (a : Bool) → is_counted_anew at first q first ≡ a → (b : Bool) → is_counted_anew at first q second ≡ b
        → ((is_counted_anew at first q first && (is_counted_anew at first q second && true)) || (not (is_counted_anew at first q first) && (not (is_counted_anew at first q second) && true))) ≡ true
        → SeesAlike m j q
    by true one true other t = given true one other
    by false one false other t = given false one other
    by true one false other t = let no = rw (one, other) at t in cc
    by false one true other t = let no = rw (one, other) at t in cc
