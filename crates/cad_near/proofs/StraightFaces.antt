-- What a face tells with a point between two others, and where the string goes straight.
use Rattle.std.proofs.Common.{◌≡◌, ◌≢◌, ◌⊎◌, ℕ, ◌≤◌, refl, sym, ap, subst, ◌∙◌, List, [], ◌∷◌, length, map, Bool, true, false, not, ℤ, pos, ◌==◌, true≢false, arith, inl, inr}
use Rattle.std.proofs.lemmas.Bool.{eqb-true, eq-eqb, false_from_ne_true}
use Rattle.std.specs.Prelude.{IsTrue, int_lt, ◌&&◌}
use Rattle.std.specs.List.{AllByRecursion, Contains}
use Rattle.geo_exact.specs.Inside.{is_inside}
use Rattle.geo_exact.specs.Position.{Position}
use Rattle.geo_exact.specs.Measure.{doubled_area}
use Rattle.cad_rows.specs.declared.names.Face.{Face}
use Rattle.cad_rings.specs.Cycle.{Ring, Side, Corner, corners_of, sides_of, placed, ring_sum, anchor_of}
use Rattle.cad_rings.specs.Surgery.{corner, without}
use Rattle.cad_rings.proofs.CallerLemmas.{anchor_of-at_most, anchor_of-Contains, placed_same, ring_sum-same}
use Rattle.cad_map.specs.declared.boundary.Boundary.{Boundary}
use Rattle.cad_map.specs.Boundaries.{is_face, bounding}
use Rattle.cad_map.specs.Map.{Map, all_sides, all_corners, has_point, position_of, rings_at, rings_of, is_positive, is_negative, is_in_ring}
use Rattle.cad_map.specs.Rings.{HasWholeRings}
use Rattle.cad_map.specs.Touched.{Moved, GoesStraight}
use Rattle.cad_map.specs.Valid.{has_outlines, has_sound_holes}
use Rattle.cad_map.proofs.CallerLemmas.{All-at_each, All-from_each, Contains-first, corner-points, corners_at, count-some, through-corners, Contains-filter, Contains-flat_map, filter-Contains, map-Contains, face-ring, side_before, sides_in-before}
use Rattle.cad_near.specs.Moves.{position_before, GoesClear, LeavesRings}
use Rattle.cad_valid.proofs.CallerLemmas.{outlines-canonical_order, inside-canonical_order, apart-canonical_order}
use Rattle.cad_near.proofs.MovedRings.{anchor-in, anchor-or_clear, positive-laid, negative-laid, inside-laid}
use Rattle.cad_near.proofs.NearFaces.{outlines-kept, sound-kept, rings-apart}
use Rattle.cad_near.proofs.RowsByNumber.{row-of}
use Rattle.cad_near.proofs.StraightRings.{Passing, passing, area-straight, inside-straight}

-- ---- A ring without a point

module _ (p : ℕ) where
  pub in-without : (ring : Ring) (q : ℕ) → Contains (without p ring) q → Contains ring q × (q ≢ p)
  in-without ring q h =
      let k = filter-Contains (λ q. not (q == p)) ring q h in
      (k.0, λ same. true≢false (sym k.1 ∙ ap not (eq-eqb q p same)))

  pub stays-in : (ring : Ring) (q : ℕ) → Contains ring q → q ≢ p → Contains (without p ring) q
  stays-in ring q h other = Contains-filter (λ q. not (q == p)) ring q h (ap not (false_from_ne_true (q == p) (λ is. other (eqb-true q p is))))

  -- a ring whose anchor is another point has it without the point, too
  pub anchor-without : (ring : Ring) → Contains ring (anchor_of ring) → anchor_of ring ≢ p → anchor_of (without p ring) ≡ anchor_of ring
  anchor-without ring there other =
      let stays = stays-in ring (anchor_of ring) there other in
      let some : 1 ≤ length (without p ring) = let low = stays.1 in omega (arith, low) in
      let least = anchor_of-Contains (without p ring) some in
      let low = All-at_each (λ q. anchor_of (without p ring) ≤ q) (without p ring) (anchor_of ring) (anchor_of-at_most (without p ring)) stays in
      let high = All-at_each (λ q. anchor_of ring ≤ q) ring (anchor_of (without p ring)) (anchor_of-at_most ring) (in-without ring (anchor_of (without p ring)) least).0 in
      omega (arith, low, high)

  rings-without : (f : Face) (bs : List Boundary) → rings_at f (map (λ r. bounding r.face (without p r.ring)) bs) ≡ map (without p) (rings_at f bs)
  rings-without f [] = refl
  rings-without f (b ∷ bs) = by (is_face f b.face) refl (rings-without f bs)
    where
      by : (t : Bool) → is_face f b.face ≡ t → rings_at f (map (λ r. bounding r.face (without p r.ring)) bs) ≡ map (without p) (rings_at f bs)
          → rings_at f (map (λ r. bounding r.face (without p r.ring)) (b ∷ bs)) ≡ map (without p) (rings_at f (b ∷ bs))
      by true is rest = rw is (ap (λ (l : List Ring). without p b.ring ∷ l) rest)
      by false is rest = rw is rest

-- ---- Rings with the point

module _ (bent straight : Map) (p a b : ℕ) (goes : GoesStraight bent straight p a b) (whole : HasWholeRings bent) where
  pub two : (r : Boundary) → Contains bent.boundaries r → 2 ≤ length r.ring
  two r there = let three = All-at_each (λ b. 3 ≤ length b.ring) bent.boundaries r whole.v5.three there in omega (arith, three)

  -- a side to the point comes from one of the two
  pub from-one : (q : ℕ) → Contains {X = Side} (all_sides bent) (q, p) → (q ≡ a) ⊎ (q ≡ b)
  from-one q h =
      let each = sides_in-before bent.boundaries (All-from_each (λ b. 2 ≤ length b.ring) bent.boundaries two) in
      let c = map-Contains side_before (all_corners bent) (q, p) (subst (λ (l : List Side). Contains {X = Side} l (q, p)) (sym each) h) in
      let before : c.0.before ≡ q = ap (λ (s : Side). s.0) c.2 in
      elim (goes.corners c.0 c.1 (ap (λ (s : Side). s.1) c.2)) [
        | inl e ↦ inl (sym before ∙ ap (λ (d : Corner). d.before) e)
        | inr e ↦ inr (sym before ∙ ap (λ (d : Corner). d.before) e)
      ]

  pub pass : (r : Boundary) → Contains bent.boundaries r → Passing p a b r.ring
  pass r there = passing p r.ring (two r there) (goes.once r there) a b (λ c h at. goes.corners c (Contains-flat_map (λ (b : Boundary). corners_of b.ring) bent.boundaries r c there h) at)

-- ---- As the rings lie where the point lies at the first of the two

module _ (bent straight : Map) (p a b : ℕ) (from : Position) (goes : GoesStraight bent straight p a b) (lies : position_of bent a ≡ from) (whole : HasWholeRings bent) where
  abbrev lay : ℕ → Position
  lay = position_before (position_of bent) (record { point = p; from = from })

  lay-here : lay p ≡ from
  lay-here = rw (eq-eqb p p refl) refl

  lay-other : (q : ℕ) → q ≢ p → lay q ≡ position_of bent q
  lay-other q other = rw (not-it (q == p) refl) refl
    where
      not-it : (b : Bool) → (q == p) ≡ b → (q == p) ≡ false
      not-it true is = absurd (other (eqb-true q p is))
      not-it false is = is

  at_first : lay p ≡ lay a
  at_first = lay-here ∙ sym lies ∙ sym (lay-other a goes.first_other)

  -- without the point all lie where they lay
  as-laid : (ring : Ring) → AllByRecursion (λ q. lay q ≡ position_of straight q) (without p ring)
  as-laid ring = All-from_each (λ q. lay q ≡ position_of straight q) (without p ring) (λ q h.
      let other = (in-without p ring q h).1 in
      lay-other q other ∙ sym (goes.elsewhere q other))

  pub area : (r : Boundary) → Contains bent.boundaries r → ring_sum doubled_area lay r.ring ≡ ring_sum doubled_area (position_of straight) (without p r.ring)
  area r there =
      area-straight p r.ring (two bent straight p a b goes whole r there) (goes.once r there) a b (pass bent straight p a b goes whole r there) lay at_first
      ∙ ring_sum-same doubled_area lay (position_of straight) (without p r.ring) (as-laid r.ring)

  inside : (r : Boundary) → Contains bent.boundaries r → (q : Position) → is_inside (placed lay (sides_of r.ring)) q ≡ is_inside (placed (position_of straight) (sides_of (without p r.ring))) q
  inside r there q =
      inside-straight p r.ring (two bent straight p a b goes whole r there) (goes.once r there) a b (pass bent straight p a b goes whole r there) lay at_first q
      ∙ (λ i. is_inside (placed_same lay (position_of straight) (without p r.ring) (as-laid r.ring) i) q)

-- ---- The face

module _ (bent straight : Map) (p a b : ℕ) (from : Position) (goes : GoesStraight bent straight p a b) (lies : position_of bent a ≡ from) (whole : HasWholeRings bent) (f : Face)
    (leaves : LeavesRings bent f (record { point = p; from = from })) where
  abbrev v : Moved
  v = record { point = p; from = from }

  away : (q : ℕ) → Contains {X = Side} (all_sides bent) (q, p) → q ≢ p
  away q h same = elim (from-one bent straight p a b goes whole q h) [
    | inl e ↦ goes.first_other (sym e ∙ same)
    | inr e ↦ goes.second_other (sym e ∙ same)
  ]

  abbrev rings : List Ring
  rings = rings_of bent f

  -- no ring has the point as its anchor: another point lies where it is said to have lain
  anchor-elsewhere : (r : Boundary) → Contains bent.boundaries r → f ≡ r.face → anchor_of r.ring ≢ p
  anchor-elsewhere r there own = elim (anchor-or_clear bent v whole away f leaves r there own) [
    | inr other ↦ other
    | inl clear ↦ absurd (lies-there clear.0 (first-there (pass bent straight p a b goes whole r there) clear.1))
  ]
    where
      -- the first of the two lies there, if the map has it
      lies-there : GoesClear bent f v → IsTrue (has_point bent a) → ⊥
      lies-there clear known =
          let row = row-of bent a known in
          clear.left row.row row.there (λ same. goes.first_other (sym row.number ∙ same)) (row.position ∙ lies)

      corner-points-of : (c : Corner) → Contains (corners_of r.ring) c → IsTrue (has_point bent c.before) × IsTrue (has_point bent c.after)
      corner-points-of c h =
          let points = corner-points bent whole c (Contains-flat_map (λ (b : Boundary). corners_of b.ring) bent.boundaries r c there h) in
          (points.0, points.2)

      at-p : (cs : List Corner) (c : Corner) → corners_at p r.ring ≡ c ∷ cs → Contains (corners_of r.ring) c
      at-p cs c is = (filter-Contains (λ c. c.at == p) (corners_of r.ring) c (subst (λ (l : List Corner). Contains l c) (sym is) (Contains-first c cs))).0

      -- and it has it, where the ring passes the point
      first-there : Passing p a b r.ring → anchor_of r.ring ≡ p → IsTrue (has_point bent a)
      first-there (Passing.forth is) at = (corner-points-of (corner a p b) (at-p [] (corner a p b) is)).0
      first-there (Passing.back is) at = (corner-points-of (corner b p a) (at-p [] (corner b p a) is)).1
      first-there (Passing.past is) at =
          let some = count-some (λ q. q == p) r.ring p (subst (Contains r.ring) at (anchor-in bent whole r there)) (eq-eqb p p refl) in
          let none = through-corners p r.ring (two bent straight p a b goes whole r there) ∙ ap (λ (l : List Corner). length l) is in
          absurd (omega (arith, some, none))

  positive-kept : (r : Ring) → Contains rings r → is_positive bent r ≡ is_positive straight (without p r)
  positive-kept r h =
      let own = face-ring bent f r h in
      subst (λ (q : Ring). is_positive bent q ≡ is_positive straight (without p q)) own.3 (positive-laid bent v whole away f leaves own.0 own.1 own.2 ∙ ap (int_lt (pos 0)) (area bent straight p a b from goes lies whole own.0 own.1))

  negative-kept : (r : Ring) → Contains rings r → is_negative bent r ≡ is_negative straight (without p r)
  negative-kept r h =
      let own = face-ring bent f r h in
      subst (λ (q : Ring). is_negative bent q ≡ is_negative straight (without p q)) own.3 (negative-laid bent v whole away f leaves own.0 own.1 own.2 ∙ ap (λ (z : ℤ). int_lt z (pos 0)) (area bent straight p a b from goes lies whole own.0 own.1))

  inside-kept : (r hole : Ring) → Contains rings r → Contains rings hole → r ≢ hole → is_in_ring bent r (anchor_of hole) ≡ is_in_ring straight (without p r) (anchor_of (without p hole))
  inside-kept r hole h k apart =
      let own = face-ring bent f r h in
      let c = face-ring bent f hole k in
      let n = anchor_of c.0.ring in
      let other = anchor-elsewhere c.0 c.1 c.2 in
      let anchor = anchor-without p c.0.ring (anchor-in bent whole c.0 c.1) other in
      let here : is_in_ring bent own.0.ring n ≡ is_in_ring straight (without p own.0.ring) (anchor_of (without p c.0.ring)) =
      inside-laid bent v whole away f leaves own.0 c.0 own.1 c.1 own.2 c.2 (λ same. apart (sym own.3 ∙ same ∙ c.3)) other
      ∙ inside bent straight p a b from goes lies whole own.0 own.1 (position_of bent n)
      ∙ ap (is_inside (placed (position_of straight) (sides_of (without p own.0.ring)))) (sym (goes.elsewhere n other))
      ∙ ap (is_in_ring straight (without p own.0.ring)) (sym anchor) in
      subst (λ (q : Ring). is_in_ring bent q (anchor_of hole) ≡ is_in_ring straight (without p q) (anchor_of (without p hole))) own.3
      (subst (λ (q : Ring). is_in_ring bent own.0.ring (anchor_of q) ≡ is_in_ring straight (without p own.0.ring) (anchor_of (without p q))) c.3 here)

  -- ---- The rings as the other map keeps them

  abbrev bs : List Boundary
  bs = map (λ r. bounding r.face (without p r.ring)) bent.boundaries

  pub outlines-straight : (n : ℕ) → has_outlines n bent rings ≡ has_outlines n straight (rings_of straight f)
  outlines-straight n =
      outlines-kept straight bent rings (rings-apart bent whole f) (without p) positive-kept negative-kept inside-kept n
      ∙ ap (has_outlines n straight) (sym (rings-without p f bent.boundaries))
      ∙ outlines-canonical_order straight f bs goes.boundaries n

  pub holes-straight : has_sound_holes bent rings ≡ has_sound_holes straight (rings_of straight f)
  holes-straight =
      sound-kept straight bent rings (rings-apart bent whole f) (without p) positive-kept negative-kept inside-kept
      ∙ ap (has_sound_holes straight) (sym (rings-without p f bent.boundaries))
      ∙ (λ i. inside-canonical_order straight f bs goes.boundaries i && apart-canonical_order straight f bs goes.boundaries i)
