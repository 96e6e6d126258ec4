-- A move that is seen to leave rings as they were keeps what their faces tell.
use Rattle.std.proofs.Common.{◌≡◌, ◌≢◌, ◌⊎◌, ℕ, ◌≤◌, inl, inr, refl, sym, ap, subst, ◌∙◌, List, [], ◌∷◌, ◌++◌, length, map, filter, min, fold, Bool, true, false, not, ℤ, pos, true≢false, arith, ◌==◌}
use Rattle.std.proofs.lemmas.Bool.{eqb-true, eqb-false, eq-eqb, not-true, false_from_ne_true}
use Rattle.std.proofs.lemmas.List.Elements.{Contains-push_cases}
use Rattle.std.proofs.lemmas.Int.{ints}
use Rattle.std.proofs.lemmas.List.Sorted.{IsPermutation-sym, Contains-permutation}
use Rattle.std.specs.Prelude.{IsTrue, int_lt, ◌||◌, ◌&&◌}
use Rattle.std.specs.List.{AllByRecursion, Contains, list_all}
use Rattle.geo_exact.specs.Inside.{is_inside}
use Rattle.geo_exact.specs.Position.{Position, OnTheMap}
use Rattle.geo_exact.specs.SignTest.{boxes_overlap, overlaps}
use Rattle.geo_exact.specs.Measure.{doubled_area, sum_over}
use Rattle.cad_rows.specs.declared.names.Face.{Face}
use Rattle.cad_rows.specs.declared.rows.PointRow.{PointRow}
use Rattle.cad_rows.specs.declared.rows.StringRow.{StringRow}
use Rattle.cad_rings.specs.Cycle.{Ring, Side, IsSameRing, opposite, sides_along, sides_of, placed, ring_sum, anchor_of}
use Rattle.cad_rings.proofs.CallerLemmas.{ring_sum-same_ring, anchor_of-same, anchor_of-Contains, placed_same, ring_sum-same}
use Rattle.cad_map.specs.declared.boundary.Boundary.{Boundary}
use Rattle.cad_map.specs.Boundaries.{is_face, sides_in}
use Rattle.cad_map.specs.Map.{Map, all_sides, string_sides, strings_at, side_of, is_end, far_end, has_point, face_sides, position_of, rings_at, rings_of, is_positive, is_negative, is_in_ring}
use Rattle.cad_map.specs.Rings.{HasWholeRings}
use Rattle.cad_map.specs.Touched.{Moved, ComesByMove}
use Rattle.cad_map.specs.Valid.{IsValid, has_outlines, has_sound_holes}
use Rattle.cad_map.specs.Views.{HasSide}
use Rattle.cad_map.specs.Walk.{Walking, sides_ahead, IsOnRing}
use Rattle.cad_map.proofs.CallerLemmas.{All-at_each, All-from_each, Contains-first, ends-along, Contains-in_part, Contains-flat_map, Contains-map, Contains-filter, filter-Contains, map-Contains, is_face-refl, list_all-at, list_any-Contains, list_any-found, both_sides, Joins, joins-far, face-ring, has_side-Contains, once-from_pairs, one_boundary, whole_valid, all-from, only-from, ring_on, same-from, begins-from, first_points, least-all}
use Rattle.cad_near.specs.declared.rays.Ray.{Ray}
use Rattle.cad_near.specs.Moves.{position_before, is_counted_anew, goes_past_alike, goes_past_but, passes, IsRound, TurnsAsBefore, TurnAlong, PassesAlone, GoesClear, GoesPast, GoesPastBut, IsPast, LeavesRings}
use Rattle.cad_near.specs.declared.rounds.Round.{Round}
use Rattle.cad_near.specs.Rays.{ray_of, AreRaysOf}
use Rattle.cad_near.proofs.ClearWays.{IsClear, inside-clear}
use Rattle.cad_near.proofs.MovedSides.{IsAlike, inside-before}
use Rattle.cad_near.proofs.NearCorners.{IsBetween, string-of_side, far-between}
use Rattle.cad_near.proofs.NearFaces.{map-itself, rings-apart, outlines-kept, sound-kept}
use Rattle.cad_near.proofs.RowsByNumber.{row-of}
use Rattle.cad_near.proofs.Candidates.{second-of}

-- ---- Positions before the move

-- they are on the map
pub before-on_map : (position : ℕ → Position) (v : Moved) → OnTheMap v.from → ((p : ℕ) → OnTheMap (position p)) → (p : ℕ) → OnTheMap (position_before position v p)
before-on_map position v from on p = by (p == v.point) refl
  where
    by : (b : Bool) → (p == v.point) ≡ b → OnTheMap (position_before position v p)
    by true is = rw is from
    by false is = rw is (on p)

-- ---- The ring that leaves the point along a side

-- a ring with the side, as its face has it
pub record HasRing (m : Map) (s : Side) : Type 0 where
  pub boundary : Boundary
  pub there : Contains (rings_of m boundary.face) boundary.ring
  pub has : Contains (sides_of boundary.ring) s

pub ring-with : (m : Map) (s : Side) → Contains (all_sides m) s → HasRing m s
ring-with m s h =
    let part = Contains-in_part (λ (b : Boundary). sides_of b.ring) m.boundaries s h in
    let b = part.0 in
    let test = λ (c : Boundary). is_face b.face c.face in
    record {
      boundary = b;
      there = Contains-map (λ (c : Boundary). c.ring) (filter test m.boundaries) b (Contains-filter test m.boundaries b part.1 (is_face-refl b.face));
      has = part.2;
    }

module _ (m : Map) (whole : HasWholeRings m) (s : Side) (r : HasRing m s) where
  -- the ring, written from the side on
  abbrev pub ring_from : Ring
  ring_from = ring_on m whole r.boundary.face s r.boundary.ring r.there r.has

  -- a walk round it gives the sum of its sides, and its anchor
  module _ (given : List Side) (w : Walking) (on : IsOnRing m ring_from given w) (none : sides_ahead w ≡ []) where
    all : given ≡ sides_of ring_from
    all = all-from m whole r.boundary.face s r.boundary.ring r.there r.has given w on none

    same : IsSameRing r.boundary.ring ring_from
    same = same-from m whole r.boundary.face s r.boundary.ring r.there r.has

    pub sum-walked : (position : ℕ → Position) → sum_over doubled_area (placed position given) ≡ ring_sum doubled_area position r.boundary.ring
    sum-walked position =
        ap (λ (sides : List Side). sum_over doubled_area (placed position sides)) all
        ∙ sym (ring_sum-same_ring doubled_area position r.boundary.ring ring_from same)

    pub anchor-walked : fold min s.0 (map (λ (t : Side). t.0) given) ≡ anchor_of r.boundary.ring
    anchor-walked =
        ap (λ (sides : List Side). fold min s.0 (map (λ (t : Side). t.0) sides)) all
        ∙ least-all s ring_from (begins-from m whole r.boundary.face s r.boundary.ring r.there r.has)
        ∙ sym (anchor_of-same r.boundary.ring ring_from same)

    -- so of each ring that has the side
    pub round-walked : (v : Moved) (r : Round) → r.area ≡ sum_over doubled_area (placed (position_of m) given) → r.area_before ≡ sum_over doubled_area (placed (position_before (position_of m) v) given)
        → r.least ≡ fold min s.0 (map (λ (t : Side). t.0) given) → (b : Boundary) → Contains m.boundaries b → Contains (sides_of b.ring) s → IsRound m v b.ring r
    round-walked v walked area before least b there has =
        subst (λ (ring : Ring). IsRound m v ring walked) (sym (only-from m whole r.boundary.face s r.boundary.ring r.there r.has b there has))
        (record { area = area ∙ sum-walked (position_of m); before = before ∙ sum-walked (position_before (position_of m) v); least = least ∙ anchor-walked })

-- ---- Points of rings, and sides and strings at the point

-- a face's sides are the map's
pub of-face : (m : Map) (f : Face) (s : Side) → HasSide m f s → Contains (all_sides m) s
of-face m f s has =
    let part = Contains-in_part sides_of (rings_of m f) s (has_side-Contains s (face_sides m f) has) in
    let c = face-ring m f part.0 part.1 in
    Contains-flat_map (λ (b : Boundary). sides_of b.ring) m.boundaries c.0 s c.1 (subst (λ (r : Ring). Contains (sides_of r) s) (sym c.3) part.2)

-- the points of rings are the map's
pub point-there : (m : Map) → HasWholeRings m → (b : Boundary) → Contains m.boundaries b → (n : ℕ) → Contains b.ring n → IsTrue (has_point m n)
point-there m whole b there n h =
    All-at_each (λ p. IsTrue (has_point m p)) b.ring n (All-at_each (λ b. AllByRecursion (λ p. IsTrue (has_point m p)) b.ring) m.boundaries b whole.v1.points_of_rings there) h

-- and its anchor is one of a ring's
pub anchor-in : (m : Map) → HasWholeRings m → (b : Boundary) → Contains m.boundaries b → Contains b.ring (anchor_of b.ring)
anchor-in m whole b there =
    let three = All-at_each (λ b. 3 ≤ length b.ring) m.boundaries b whole.v5.three there in
    anchor_of-Contains b.ring (omega (arith, three))

-- a string that leads from one point to another leads back, too
joins-turned : (s : StringRow) (p q : ℕ) → Joins s p q → Joins s q p
joins-turned s p q j = record {
  ends = elim j.ends [
    | inl e ↦ inr e
    | inr e ↦ inl e
  ];
}

module _ (m : Map) (whole : HasWholeRings m) (p : ℕ) where
  -- along each of a point's strings a side leaves it, and one comes to it
  pub side-out : (s : StringRow) → Contains (strings_at m p) s → Contains (all_sides m) (p, far_end s p) × Contains (all_sides m) (far_end s p, p)
  side-out s h =
      let end = filter-Contains (λ s. is_end s p) m.strings s h in
      let both = both_sides m s end.0 in
      let in_all = λ (t : Side). Contains-permutation (string_sides m) (all_sides m) t whole.v5.once in
      let forth = in_all (side_of s) both.0 in
      let back = in_all (opposite (side_of s)) both.1 in
      elim (joins-far s p end.1).ends [
        | inl e ↦ (subst (λ (t : Side). Contains (all_sides m) t) (λ i. (e.0 i, e.1 i)) forth, subst (λ (t : Side). Contains (all_sides m) t) (λ i. (e.1 i, e.0 i)) back)
        | inr e ↦ (subst (λ (t : Side). Contains (all_sides m) t) (λ i. (e.1 i, e.0 i)) back, subst (λ (t : Side). Contains (all_sides m) t) (λ i. (e.0 i, e.1 i)) forth)
      ]

  -- and along each of its rays
  pub ray-side : (rays : List Ray) → AreRaysOf m p rays → (r : Ray) → Contains rays r → Contains (all_sides m) (p, r.far)
  ray-side rays are r h =
      let k = map-Contains (ray_of m p) are.strings r (subst (λ (l : List Ray). Contains l r) are.seen h) in
      let at = Contains-permutation are.strings (strings_at m p) k.0 (IsPermutation-sym (strings_at m p) are.strings are.each) k.1 in
      subst (λ (q : Ray). Contains (all_sides m) (p, q.far)) k.2 (side-out k.0 at).0

  -- a side of the map to the point comes along one of its strings
  pub string-back : (a : ℕ) → Contains (all_sides m) (a, p) → (s : StringRow) × Contains (strings_at m p) s × (far_end s p ≡ a)
  string-back a h =
      let between = string-of_side m whole a p h in
      let far = far-between m whole a p between in
      (between.string, Contains-filter (λ s. is_end s p) m.strings between.string between.there far.0, far.1)

  -- and one from the point goes along one
  pub string-out : (b : ℕ) → Contains (all_sides m) (p, b) → (s : StringRow) × Contains (strings_at m p) s × (far_end s p ≡ b)
  string-out b h =
      let between = string-of_side m whole p b h in
      let turned : IsBetween m b p = record { string = between.string; there = between.there; joins = joins-turned between.string p b between.joins } in
      let far = far-between m whole b p turned in
      (between.string, Contains-filter (λ s. is_end s p) m.strings between.string between.there far.0, far.1)

  -- a ring of another face than the one that has a side doesn't have the side
  pub other-face : (f left : Face) (to : ℕ) → HasSide m left (p, to) → is_face f left ≡ false → (b : Boundary) → Contains m.boundaries b → f ≡ b.face → Contains {X = Side} (sides_of b.ring) (p, to) → ⊥
  other-face f left to has apart b there own in_ring =
      let part = Contains-in_part sides_of (rings_of m left) (p, to) (has_side-Contains (p, to) (face_sides m left) has) in
      let c = face-ring m left part.0 part.1 in
      let once = once-from_pairs (all_sides m) whole.once (p, to) in
      let same = one_boundary (p, to) m.boundaries b c.0 once there c.1 in_ring (subst (λ (r : Ring). Contains {X = Side} (sides_of r) (p, to)) (sym c.3) part.2) in
      let face : f ≡ left = own ∙ ap (λ (d : Boundary). d.face) same ∙ sym c.2 in
      true≢false (sym (ap (is_face f) (sym face) ∙ is_face-refl f) ∙ apart)

-- ---- What was seen

-- the rays' tests are tests of the strings
module _ (m : Map) (v : Moved) (rays : List Ray) (are : AreRaysOf m v.point rays) (at : Position) (lies : at ≡ position_of m v.point) where
  ray-of : (s : StringRow) → Contains (strings_at m v.point) s → Contains rays (ray_of m v.point s)
  ray-of s h =
      subst (λ (l : List Ray). Contains l (ray_of m v.point s)) (sym are.seen)
      (Contains-map (ray_of m v.point) are.strings s (Contains-permutation (strings_at m v.point) are.strings s are.each h))

  abbrev IsAnew : Position → Bool → Type 0
  IsAnew q anew = (s : StringRow) → Contains (strings_at m v.point) s → is_counted_anew (position_of m v.point) v.from q (position_of m (far_end s v.point)) ≡ anew

  alike-strings : (q : Position) → goes_past_alike at v.from rays q ≡ true → (anew : Bool) × IsAnew q anew
  alike-strings q is = by (list_all (λ r. is_counted_anew at v.from q r.position) rays) refl is
    where
      here : (s : StringRow) → is_counted_anew at v.from q (position_of m (far_end s v.point)) ≡ is_counted_anew (position_of m v.point) v.from q (position_of m (far_end s v.point))
      here s = ap (λ (p : Position). is_counted_anew p v.from q (position_of m (far_end s v.point))) lies

      by : (b : Bool) → list_all (λ r. is_counted_anew at v.from q r.position) rays ≡ b → (b || list_all (λ r. not (is_counted_anew at v.from q r.position)) rays) ≡ true → (anew : Bool) × IsAnew q anew
      by true all t = (true, λ s h. sym (here s) ∙ list_all-at (λ r. is_counted_anew at v.from q r.position) rays (ray_of m v.point s) all (ray-of s h))
      by false none all = (false, λ s h. sym (here s) ∙ not-true (is_counted_anew at v.from q (position_of m (far_end s v.point))) (list_all-at (λ r. not (is_counted_anew at v.from q r.position)) rays (ray_of m v.point s) all (ray-of s h)))

  but-strings : (n : ℕ) (q : Position) → goes_past_but at v.from rays (record { point = n; position = q }) ≡ true → GoesPastBut m v n q
  but-strings n q is = by (list_all (λ r. (r.far == n) || is_counted_anew at v.from q r.position) rays) refl is
    where
      here : (s : StringRow) → is_counted_anew at v.from q (position_of m (far_end s v.point)) ≡ is_counted_anew (position_of m v.point) v.from q (position_of m (far_end s v.point))
      here s = ap (λ (p : Position). is_counted_anew p v.from q (position_of m (far_end s v.point))) lies

      by : (b : Bool) → list_all (λ r. (r.far == n) || is_counted_anew at v.from q r.position) rays ≡ b
          → (b || list_all (λ r. (r.far == n) || not (is_counted_anew at v.from q r.position)) rays) ≡ true → GoesPastBut m v n q
      by true all t = (true, λ s h other. sym (here s) ∙ second-of other (list_all-at (λ r. (r.far == n) || is_counted_anew at v.from q r.position) rays (ray_of m v.point s) all (ray-of s h)))
      by false none all = (
        false,
        λ s h other. sym (here s) ∙ not-true (is_counted_anew at v.from q (position_of m (far_end s v.point)))
            (second-of other (list_all-at (λ r. (r.far == n) || not (is_counted_anew at v.from q r.position)) rays (ray_of m v.point s) all (ray-of s h))),
      )

  pub leaves-rings : (f : Face) → HasWholeRings m → (clear : Bool) → (clear ≡ true → GoesClear m f v)
      → ((p : PointRow) → Contains m.points p → p.number ≢ v.point → IsPast m f v at rays (record { point = p.number; position = p.position }))
      → AllByRecursion (λ r. TurnAlong m f v clear r.far) rays → LeavesRings m f v
  leaves-rings f whole clear goes past turn = record {
    clear = clear;
    goes_clear = goes;
    rings = λ s h. All-at_each (λ r. TurnAlong m f v clear r.far) rays (ray_of m v.point s) turn (ray-of s h);
    points = λ b there n h other.
        let r = row-of m n (point-there m whole b there n h) in
        let off = λ (same : r.row.number ≡ v.point). other (sym r.number ∙ same) in
        elim (past r.row r.there off) [
          | inl alike ↦ inl (subst (GoesPast m v) r.position (alike-strings r.row.position (second-of off alike)))
          | inr but ↦ inr (
            subst (GoesPastBut m v n) r.position (subst (λ (k : ℕ). GoesPastBut m v k r.row.position) r.number (but-strings r.row.number r.row.position but.0)),
            subst (PassesAlone m f) r.number but.1,
          )
        ];
  }

-- ---- What the rings of a face tell, by where the point lay

-- both ends of a ring's side are points of it
side-points : (ring : Ring) (s : Side) → Contains (sides_of ring) s → Contains ring s.0 × Contains ring s.1
side-points [] s h = let low = h.1 in absurd (omega arith)
side-points (a ∷ points) s h =
    let first = Contains-first a points in
    let each = ends-along (Contains (a ∷ points)) a points a (All-from_each (Contains (a ∷ points)) (a ∷ points ++ a ∷ []) (λ p k.
    elim (Contains-push_cases (a ∷ points) a p k) [
      | inl among ↦ among
      | inr same ↦ subst (Contains (a ∷ points)) same first
    ])) in
    All-at_each (λ (t : Side). Contains (a ∷ points) t.0 × Contains (a ∷ points) t.1) (sides_along a points a) s each h

-- a string that has neither end there
no-end : (s : StringRow) (p : ℕ) → s.from ≢ p → s.to ≢ p → is_end s p ≡ false
no-end s p first second = rw (false_from_ne_true (s.from == p) (λ is. first (eqb-true s.from p is)), false_from_ne_true (s.to == p) (λ is. second (eqb-true s.to p is))) refl

-- boxes overlap or don't, whichever end of a segment is named first
boxes-turned : (a b c d : Position) → boxes_overlap a b c d ≡ false → boxes_overlap a b d c ≡ false
boxes-turned a b c d apart = (λ i. turned a.x b.x d.x c.x i && turned a.y b.y d.y c.y i) ∙ apart
  where
    turned : (w x y z : ℤ) → overlaps w x y z ≡ overlaps w x z y
    turned w x y z = grind (arith, ints)

module _ (m : Map) (v : Moved) (whole : HasWholeRings m) (away : (q : ℕ) → Contains {X = Side} (all_sides m) (q, v.point) → q ≢ v.point) (f : Face) (leaves : LeavesRings m f v) where
  abbrev lay : ℕ → Position
  lay = position_before (position_of m) v

  -- a point of a ring that doesn't pass the moved one is another, and lies where it lay
  pub other : (ring : Ring) → passes v.point ring ≡ false → (p : ℕ) → Contains ring p → p ≢ v.point
  other ring none p h same = true≢false (sym (list_any-Contains (λ q. q == v.point) ring p h (eq-eqb p v.point same)) ∙ none)

  lay-other : (p : ℕ) → p ≢ v.point → lay p ≡ position_of m p
  lay-other p off = rw (false_from_ne_true (p == v.point) (λ is. off (eqb-true p v.point is))) refl

  -- the sides of a ring are the map's
  in_all : (b : Boundary) → Contains m.boundaries b → (s : Side) → Contains (sides_of b.ring) s → Contains (all_sides m) s
  in_all b there s h = Contains-flat_map (λ (b : Boundary). sides_of b.ring) m.boundaries b s there h

  -- a ring that passes the point turns as it turned
  pub turns : (b : Boundary) → Contains m.boundaries b → f ≡ b.face → passes v.point b.ring ≡ true → TurnsAsBefore m v leaves.clear b.ring
  turns b there own some =
      let found = list_any-found (λ p. p == v.point) b.ring some in
      let out = map-Contains (λ (t : Side). t.0) (sides_of b.ring) found.0 (subst (λ (l : List ℕ). Contains l found.0) (sym (first_points b.ring)) found.1) in
      let from : out.0.0 ≡ v.point = out.2 ∙ eqb-true found.0 v.point found.2 in
      let has : Contains {X = Side} (sides_of b.ring) (v.point, out.0.1) = subst (λ (p : ℕ). Contains {X = Side} (sides_of b.ring) (p, out.0.1)) from out.1 in
      let s = string-out m whole v.point out.0.1 (in_all b there (v.point, out.0.1) has) in
      leaves.rings s.0 s.1 b there own (subst (λ (p : ℕ). Contains {X = Side} (sides_of b.ring) (v.point, p)) (sym s.2) has)

  -- each side is counted as before, but those at the point, which all change or none
  alike : (b : Boundary) → Contains m.boundaries b → (q : Position) (anew : Bool)
      → ((s : StringRow) → Contains (strings_at m v.point) s → Contains b.ring (far_end s v.point) → is_counted_anew (position_of m v.point) v.from q (position_of m (far_end s v.point)) ≡ anew)
      → AllByRecursion (IsAlike (position_of m) v q anew) (sides_of b.ring)
  alike b there q anew each = All-from_each (IsAlike (position_of m) v q anew) (sides_of b.ring) (λ s h.
      let known = in_all b there s h in
      let ends = side-points b.ring s h in
      let counted = λ (p : ℕ). is_counted_anew (position_of m v.point) v.from q (position_of m p) ≡ anew in
      record {
        out = λ from.
            let t = string-out m whole v.point s.1 (subst (λ (p : ℕ). Contains {X = Side} (all_sides m) (p, s.1)) from known) in
            let side = subst (λ (p : ℕ). Contains {X = Side} (all_sides m) (p, v.point)) t.2 (side-out m whole v.point t.0 t.1).1 in
            (away s.1 side, subst counted t.2 (each t.0 t.1 (subst (Contains b.ring) (sym t.2) ends.1)));
        back = λ to.
            let side = subst (λ (p : ℕ). Contains {X = Side} (all_sides m) (s.0, p)) to known in
            let t = string-back m whole v.point s.0 side in
            (away s.0 side, subst counted t.2 (each t.0 t.1 (subst (Contains b.ring) (sym t.2) ends.0)));
      })

  pub by_passing : {G : Type 0} (ring : Ring) (b : Bool) → passes v.point ring ≡ b → (passes v.point ring ≡ true → G) → (passes v.point ring ≡ false → G) → G
  by_passing ring true is some none = some is
  by_passing ring false is some none = none is

  laid-elsewhere : (ring : Ring) → passes v.point ring ≡ false → ring_sum doubled_area (position_of m) ring ≡ ring_sum doubled_area lay ring
  laid-elsewhere ring none = sym (ring_sum-same doubled_area lay (position_of m) ring (All-from_each (λ p. lay p ≡ position_of m p) ring (λ p h. lay-other p (other ring none p h))))

  pub positive-laid : (b : Boundary) → Contains m.boundaries b → f ≡ b.face → is_positive m b.ring ≡ int_lt (pos 0) (ring_sum doubled_area lay b.ring)
  positive-laid b there own = by_passing b.ring (passes v.point b.ring) refl
      (λ some. (turns b there own some).positive)
      (λ none. ap (int_lt (pos 0)) (laid-elsewhere b.ring none))

  pub negative-laid : (b : Boundary) → Contains m.boundaries b → f ≡ b.face → is_negative m b.ring ≡ int_lt (ring_sum doubled_area lay b.ring) (pos 0)
  negative-laid b there own = by_passing b.ring (passes v.point b.ring) refl
      (λ some. (turns b there own some).negative)
      (λ none. ap (λ (z : ℤ). int_lt z (pos 0)) (laid-elsewhere b.ring none))

  -- where another point is a ring's anchor, it is inside each other ring where it was
  pub inside-laid : (b c : Boundary) → Contains m.boundaries b → Contains m.boundaries c → f ≡ b.face → f ≡ c.face → b.ring ≢ c.ring → anchor_of c.ring ≢ v.point
      → is_in_ring m b.ring (anchor_of c.ring) ≡ is_inside (placed lay (sides_of b.ring)) (position_of m (anchor_of c.ring))
  inside-laid b c b_there c_there b_own c_own differ elsewhere =
      elim (leaves.points c c_there n (anchor-in m whole c c_there) elsewhere) [
        | inl past ↦ inside-before (position_of m) v (position_of m n) past.0 b.ring (alike b b_there (position_of m n) past.0 (λ s h _. past.1 s h))
        | inr but ↦
            inside-before (position_of m) v (position_of m n) but.0.0 b.ring
            (alike b b_there (position_of m n) but.0.0 (λ s h in_ring. but.0.1 s h (λ same. differ (ap (λ (d : Boundary). d.ring)
            (but.1 b c b_there c_there b_own c_own
            (list_any-Contains (λ q. q == n) b.ring (far_end s v.point) in_ring (eq-eqb (far_end s v.point) n same))
            (list_any-Contains (λ q. q == n) c.ring n (anchor-in m whole c c_there) (eq-eqb n n refl)))))))
      ]
    where
      n : ℕ
      n = anchor_of c.ring

  -- the anchor is another point, or the point went clear
  pub anchor-or_clear : (b : Boundary) → Contains m.boundaries b → f ≡ b.face → (GoesClear m f v × (anchor_of b.ring ≡ v.point)) ⊎ (anchor_of b.ring ≢ v.point)
  anchor-or_clear b there own = by (anchor_of b.ring == v.point) refl
    where
      clear : (o : (leaves.clear ≡ true) ⊎ (anchor_of b.ring ≢ v.point)) → anchor_of b.ring ≡ v.point → GoesClear m f v
      clear (inl is) same = leaves.goes_clear is
      clear (inr away) same = absurd (away same)

      by : (t : Bool) → (anchor_of b.ring == v.point) ≡ t → (GoesClear m f v × (anchor_of b.ring ≡ v.point)) ⊎ (anchor_of b.ring ≢ v.point)
      by false is = inr (eqb-false (anchor_of b.ring) v.point is)
      by true is =
          let same = eqb-true (anchor_of b.ring) v.point is in
          let some = list_any-Contains (λ q. q == v.point) b.ring (anchor_of b.ring) (anchor-in m whole b there) is in
          inl (clear (turns b there own some).anchor same, same)

  -- a ring that doesn't pass a point that went clear has its place inside where it had it
  pub inside-clear_of : GoesClear m f v → (b : Boundary) → Contains m.boundaries b → passes v.point b.ring ≡ false
      → is_in_ring m b.ring v.point ≡ is_inside (placed lay (sides_of b.ring)) v.from
  inside-clear_of goes b there none =
      sym (inside-clear v.from (position_of m v.point) (position_of m) b.ring
      (All-from_each (IsClear v.from (position_of m v.point) (position_of m)) (sides_of b.ring) clear))
      ∙ ap (λ (l : List (Position × Position)). is_inside l v.from)
      (placed_same (position_of m) lay b.ring (All-from_each (λ p. position_of m p ≡ lay p) b.ring (λ p h. sym (lay-other p (other b.ring none p h)))))
    where
      clear : (s : Side) → Contains (sides_of b.ring) s → boxes_overlap v.from (position_of m v.point) (position_of m s.0) (position_of m s.1) ≡ false
      clear s h =
          let between = string-of_side m whole s.0 s.1 (in_all b there s h) in
          let ends = side-points b.ring s h in
          let t = between.string in
          let first = other b.ring none s.0 ends.0 in
          let second = other b.ring none s.1 ends.1 in
          elim between.joins.ends [
            | inl e ↦
                subst (λ (u : Side). boxes_overlap v.from (position_of m v.point) (position_of m u.0) (position_of m u.1) ≡ false) (λ i. (e.0 i, e.1 i))
                (goes.way t between.there (no-end t v.point (λ same. first (sym e.0 ∙ same)) (λ same. second (sym e.1 ∙ same))))
            | inr e ↦
                boxes-turned v.from (position_of m v.point) (position_of m s.1) (position_of m s.0)
                (subst (λ (u : Side). boxes_overlap v.from (position_of m v.point) (position_of m u.0) (position_of m u.1) ≡ false) (λ i. (e.0 i, e.1 i))
                (goes.way t between.there (no-end t v.point (λ same. second (sym e.0 ∙ same)) (λ same. first (sym e.1 ∙ same)))))
          ]

-- ---- What a face has that a move left so

module _ (old new : Map) (v : Moved) (valid : IsValid old) (whole : HasWholeRings new) (comes : ComesByMove old new v) (f : Face) (leaves : LeavesRings new f v) where
  -- each point lay where the old map has it
  lay-old : (p : ℕ) → position_before (position_of new) v p ≡ position_of old p
  lay-old p = by (p == v.point) refl
    where
      by : (b : Bool) → (p == v.point) ≡ b → position_before (position_of new) v p ≡ position_of old p
      by true is = rw is (sym comes.from ∙ ap (position_of old) (sym (eqb-true p v.point is)))
      by false is = rw is (comes.elsewhere p (eqb-false p v.point is))

  all-lay : (ring : Ring) → AllByRecursion (λ p. position_before (position_of new) v p ≡ position_of old p) ring
  all-lay ring = All-from_each (λ p. position_before (position_of new) v p ≡ position_of old p) ring (λ p h. lay-old p)

  -- the ends of a side are two points
  away : (q : ℕ) → Contains {X = Side} (all_sides new) (q, v.point) → q ≢ v.point
  away q h =
      let between = string-of_side old (whole_valid old valid) q v.point (subst (λ (bs : List Boundary). Contains {X = Side} (sides_in bs) (q, v.point)) comes.boundaries h) in
      let two = All-at_each (λ (t : StringRow). t.from ≢ t.to) old.strings between.string valid.sound.v2 between.there in
      elim between.joins.ends [
        | inl e ↦ (λ same. two (e.0 ∙ same ∙ sym e.1))
        | inr e ↦ (λ same. two (e.0 ∙ sym same ∙ sym e.1))
      ]

  abbrev lay_as : (ring : Ring) → ring_sum doubled_area (position_before (position_of new) v) ring ≡ ring_sum doubled_area (position_of old) ring
  lay_as ring = ring_sum-same doubled_area (position_before (position_of new) v) (position_of old) ring (all-lay ring)

  abbrev rings : List Ring
  rings = rings_of new f

  positive-kept : (r : Ring) → Contains rings r → is_positive new r ≡ is_positive old r
  positive-kept r h =
      let b = face-ring new f r h in
      subst (λ (q : Ring). is_positive new q ≡ is_positive old q) b.3 (positive-laid new v whole away f leaves b.0 b.1 b.2 ∙ ap (int_lt (pos 0)) (lay_as b.0.ring))

  negative-kept : (r : Ring) → Contains rings r → is_negative new r ≡ is_negative old r
  negative-kept r h =
      let b = face-ring new f r h in
      subst (λ (q : Ring). is_negative new q ≡ is_negative old q) b.3 (negative-laid new v whole away f leaves b.0 b.1 b.2 ∙ ap (λ (z : ℤ). int_lt z (pos 0)) (lay_as b.0.ring))

  inside-kept : (r hole : Ring) → Contains rings r → Contains rings hole → r ≢ hole → is_in_ring new r (anchor_of hole) ≡ is_in_ring old r (anchor_of hole)
  inside-kept r hole h k differ =
      let b = face-ring new f r h in
      let c = face-ring new f hole k in
      let n = anchor_of c.0.ring in
      let laid : (q : Position) → is_inside (placed (position_before (position_of new) v) (sides_of b.0.ring)) q ≡ is_inside (placed (position_of old) (sides_of b.0.ring)) q =
      λ q i. is_inside (placed_same (position_before (position_of new) v) (position_of old) b.0.ring (all-lay b.0.ring) i) q in
      let here : is_in_ring new b.0.ring n ≡ is_in_ring old b.0.ring n = elim (anchor-or_clear new v whole away f leaves c.0 c.1 c.2) [
        | inr elsewhere ↦
            inside-laid new v whole away f leaves b.0 c.0 b.1 c.1 b.2 c.2 (λ same. differ (sym b.3 ∙ same ∙ c.3)) elsewhere ∙ laid (position_of new n)
            ∙ ap (is_inside (placed (position_of old) (sides_of b.0.ring))) (comes.elsewhere n elsewhere)
        | inl clear ↦
            let at : n ≡ v.point = clear.1 in
            let some = list_any-Contains (λ q. q == v.point) c.0.ring n (anchor-in new whole c.0 c.1) (eq-eqb n v.point at) in
            let none = not-passed b.0.ring (λ passes. differ (sym b.3 ∙ ap (λ (d : Boundary). d.ring) (clear.0.alone b.0 c.0 b.1 c.1 b.2 c.2 passes some) ∙ c.3)) in
            ap (is_in_ring new b.0.ring) at ∙ inside-clear_of new v whole away f leaves clear.0 b.0 b.1 none ∙ laid v.from
            ∙ ap (is_inside (placed (position_of old) (sides_of b.0.ring))) (sym comes.from) ∙ ap (is_in_ring old b.0.ring) (sym at)
      ] in
      subst (λ (q : Ring). is_in_ring new q (anchor_of hole) ≡ is_in_ring old q (anchor_of hole)) b.3
      (subst (λ (q : Ring). is_in_ring new b.0.ring (anchor_of q) ≡ is_in_ring old b.0.ring (anchor_of q)) c.3 here)
    where
      not-passed : (ring : Ring) → ¬ (passes v.point ring ≡ true) → passes v.point ring ≡ false
      not-passed ring never = false_from_ne_true (passes v.point ring) never

  pub outlines-moved : (n : ℕ) → has_outlines n new rings ≡ has_outlines n old (rings_of old f)
  outlines-moved n = outlines-kept old new rings (rings-apart new whole f) (λ r. r) positive-kept negative-kept inside-kept n ∙ ap (has_outlines n old) (map-itself rings ∙ ap (rings_at f) comes.boundaries)

  pub holes-moved : has_sound_holes new rings ≡ has_sound_holes old (rings_of old f)
  holes-moved = sound-kept old new rings (rings-apart new whole f) (λ r. r) positive-kept negative-kept inside-kept ∙ ap (has_sound_holes old) (map-itself rings ∙ ap (rings_at f) comes.boundaries)
