-- The points along a half's cycle are the ring that has its side.
-- A half and its next make a corner, so the next half has the next side of the ring. After as
-- many halves as the ring has sides the half comes again, and not before, since no two halves
-- have one side.
use Rattle.std.proofs.Common.{◌≡◌, ℕ, zero, suc, ◌<◌, Bool, true, false, List, [], ◌∷◌, length, map, refl, sym, ap, ◌∙◌, subst, arith, Some}
use Rattle.std.proofs.lemmas.List.{take_all}
use Rattle.std.specs.List.{Contains}
use Rattle.cad_rings.specs.Cycle.{Ring, Side, sides_of, Corner, corners_of, turned, IsSameRing}
use Rattle.cad_rings.specs.Surgery.{corner}
use Rattle.cad_rings.proofs.CallerLemmas.{IsSameRing-turned}
use Rattle.cad_map.specs.declared.boundary.Boundary.{Boundary}
use Rattle.cad_map.specs.Map.{Map}
use Rattle.cad_map.specs.Rings.{HasWholeRings}
use Rattle.cad_map.specs.Walk.{first_side}
use Rattle.cad_map.specs.Steps.{next_side, steps}
use Rattle.cad_map.proofs.CallerLemmas.{Contains-in_part, Contains-map, side_before, sides-before, points_along, IsWalked, walked-same, side-place, points_along-ring, steps-round, round-least, next-is, ring-walked, All-at_each, each_canonical, map-canonical_form, canonical_order-permuted}
use Rattle.half_table.specs.declared.half.Half.{Half}
use Rattle.half_table.specs.Half.{is_half}
use Rattle.half_table.specs.Cycle.{IsRun, orbit}
use Rattle.half_table.specs.Rows.{HalfRows, next, origin_of, halves, cycle}
use Rattle.half_table.proofs.Halves.{is_half-self, is_half-other}
use Rattle.half_table.proofs.Closed.{cycle-closes}
use Rattle.std.specs.Prelude.{IsPermutation}
use Rattle.std.specs.List.{AllByRecursion}
use Rattle.cad_rows.specs.declared.names.Face.{Face}
use Rattle.cad_rings.specs.Canonical.{least_rotation}
use Rattle.cad_rings.proofs.CallerLemmas.{least_rotation-same}
use Rattle.cad_map.specs.Boundaries.{bounding, canonical_order, canonical_form}
use Rattle.cad_laws.specs.Local.{IsShown, side_by, IsLocal}
use Rattle.map_parts.specs.KeptRings.{IsRingOf, kept_ring, IsKept, KeepsRings}

-- ---- Halves in turn, whatever next is

-- so many halves on
abbrev pub on : (Half → Half) → ℕ → Half → Half
on nx zero h = h
on nx (suc n) h = on nx n (nx h)

-- so many halves from this one on
abbrev pub trip : (Half → Half) → ℕ → Half → List Half
trip nx zero h = []
trip nx (suc n) h = h ∷ trip nx n (nx h)

-- a run from a half to another is the only one
run-one : (nx : Half → Half) (h at : Half) (xs ys : List Half) → IsRun nx h at xs → IsRun nx h at ys → (is_half h h ≡ true) → xs ≡ ys
run-one nx h at [] [] r q self = refl
run-one nx h at [] (y ∷ ys) r q self = absurd (differ (subst (λ (z : Half). is_half z h ≡ true) (sym r) self) q.1)
  where
    differ : {b : Bool} → b ≡ true → b ≡ false → ⊥
    differ h k = cc
run-one nx h at (x ∷ xs) [] r q self = absurd (differ (subst (λ (z : Half). is_half z h ≡ true) (sym q) self) r.1)
  where
    differ : {b : Bool} → b ≡ true → b ≡ false → ⊥
    differ h k = cc
run-one nx h at (x ∷ xs) (y ∷ ys) r q self = λ i. (sym r.0 ∙ q.0) i ∷ run-one nx h (nx at) xs ys r.2 q.2 self i

-- halves none of which is h, and then h, are a run
run-trip : (nx : Half → Half) (h : Half) (n : ℕ) (at : Half) → ((j : ℕ) → j < n → is_half (on nx j at) h ≡ false) → on nx n at ≡ h → IsRun nx h at (trip nx n at)
run-trip nx h zero at away ends = ends
run-trip nx h (suc n) at away ends = (refl, away 0 (omega arith), run-trip nx h n (nx at) (λ j less. away (suc j) (omega arith)) ends)

module _ (m : Map) (rows : HalfRows) (whole : HasWholeRings m) (local : IsLocal m rows) where
  abbrev nx : Half → Half
  nx = next rows

  -- the side of the next half is the next side of the map
  step : (h : Half) → IsShown m h → side_by rows (nx h) ≡ next_side m (side_by rows h)
  step h shown = (λ i. (local.meets h shown i, (side_by rows (nx h)).1)) ∙ sym (next-is m whole (side_by rows h) (side_by rows (nx h)).1 (local.corners h shown))

  shown-on : (n : ℕ) (h : Half) → IsShown m h → IsShown m (on nx n h)
  shown-on zero h shown = shown
  shown-on (suc n) h shown = shown-on n (nx h) (local.inside h shown)

  side-on : (n : ℕ) (h : Half) → IsShown m h → side_by rows (on nx n h) ≡ steps (next_side m) n (side_by rows h)
  side-on zero h shown = refl
  side-on (suc n) h shown = side-on n (nx h) (local.inside h shown) ∙ ap (steps (next_side m) n) (step h shown)

  -- the points of halves in turn are a points_along of the map
  points-on : (n : ℕ) (h : Half) → IsShown m h → map (origin_of rows) (trip nx (suc n) h) ≡ points_along (next_side m) (side_by rows h) n
  points-on zero h shown = refl
  points-on (suc n) h shown = ap (λ (l : List ℕ). origin_of rows h ∷ l) (points-on n (nx h) (local.inside h shown) ∙ ap (λ (s : Side). points_along (next_side m) s n) (step h shown))

  -- ---- The cycle of a half whose side a ring has

  module _ (h : Half) (shown : IsShown m h) (b : Boundary) (there : Contains m.boundaries b) (has : Contains (sides_of b.ring) (side_by rows h)) where
    abbrev s : Side
    s = side_by rows h

    abbrev place : (i : ℕ) × (i < length b.ring) × (first_side (turned i b.ring) ≡ Some s)
    place = side-place b.ring s has

    abbrev r : Ring
    r = turned place.0 b.ring

    same : IsSameRing b.ring r
    same = IsSameRing-turned place.0 b.ring

    round : IsWalked (next_side m) r
    round = walked-same (next_side m) b.ring r same (ring-walked m whole b there)

    -- after as many halves as the ring has sides the half comes again, and not before
    again : (n : ℕ) → n ≡ length r → on nx n h ≡ h
    again n is = local.apart (on nx n h) h (shown-on n h shown) shown (side-on n h shown ∙ ap (λ (k : ℕ). steps (next_side m) k s) is ∙ steps-round (next_side m) (λ t. refl) r s round place.2)

    away : (j : ℕ) → suc j < length r → is_half (on nx (suc j) h) h ≡ false
    away j less = is_half-other (on nx (suc j) h) h (λ e.
        let back : steps (next_side m) (suc j) s ≡ s = sym (side-on (suc j) h shown) ∙ ap (side_by rows) e in
        let long = round-least (next_side m) (λ t. refl) r s round place.2 j back in
        absurd (omega (arith, long, less)))

    along : (n : ℕ) → suc n ≡ length r → cycle rows h ≡ trip nx (suc n) h
    along n is =
        let closes = cycle-closes rows local.linked h (local.there h shown) in
        let mine = run-trip nx h n (nx h) (λ j less. away j (let l : suc j < length r = omega (arith, is, less) in l)) (again (suc n) is) in
        ap (λ (l : List Half). h ∷ l) (run-one nx h (nx h) (orbit nx (length (halves rows)) h (nx h)) (trip nx n (nx h)) closes mine (is_half-self h))

    points : (n : ℕ) → suc n ≡ length r → map (origin_of rows) (cycle rows h) ≡ r
    points n is =
        let two = round.two in
        ap (map (origin_of rows)) (along n is) ∙ points-on n h shown ∙ points_along-ring (next_side m) (λ t. refl) r s round place.2 n (omega (arith, is)) ∙ take_all (suc n) r (omega (arith, is))

    pub cycle-same_ring : IsSameRing b.ring (map (origin_of rows) (cycle rows h))
    cycle-same_ring = by (length r) refl
      where
        by : (n : ℕ) → length r ≡ n → IsSameRing b.ring (map (origin_of rows) (cycle rows h))
        by zero is = let two = round.two in absurd (omega (arith, two, is))
        by (suc n) is = subst (IsSameRing b.ring) (sym (points n (sym is))) same

  -- ---- The ring that has the side of a half

  pub cycle-ring : (h : Half) → IsShown m h → IsRingOf m rows h
  cycle-ring h shown =
      let c : Corner = corner (side_by rows h).0 (side_by rows h).1 (side_by rows (nx h)).1 in
      let part = Contains-in_part (λ (b : Boundary). corners_of b.ring) m.boundaries c (local.corners h shown) in
      let two = (ring-walked m whole part.0 part.1).two in
      let has : Contains (sides_of part.0.ring) (side_by rows h) = subst (λ (l : List Side). Contains l (side_by rows h)) (sides-before part.0.ring two) (Contains-map side_before (corners_of part.0.ring) c part.2) in
      record { boundary = part.0; there = part.1; has = has; same = cycle-same_ring h shown part.0 part.1 has }

  -- ---- All rings, from one half of each

  -- the canonical form of a ring, from the half that is kept of it
  kept-canonical : (homes : Half → Boundary) (k : Face × Half) → IsKept m rows homes k → canonical_form (kept_ring rows k) ≡ homes k.1
  kept-canonical homes k is =
      let b = homes k.1 in
      let one : least_rotation b.ring ≡ least_rotation (map (origin_of rows) (cycle rows k.1)) = least_rotation-same b.ring (map (origin_of rows) (cycle rows k.1)) (cycle-same_ring k.1 is.is_shown b is.there is.has) in
      let in_form = All-at_each (λ (c : Boundary). canonical_form c ≡ c) (canonical_order m.boundaries) b (each_canonical m.boundaries) (subst (λ (l : List Boundary). Contains l b) (sym whole.v1.canonical) is.there) in
      (λ i. bounding (sym is.face i) (sym one i)) ∙ in_form

  kept-all : (homes : Half → Boundary) (ks : List (Face × Half)) → AllByRecursion (IsKept m rows homes) ks → map canonical_form (map (kept_ring rows) ks) ≡ map (λ (k : Face × Half). homes k.1) ks
  kept-all homes [] all = refl
  kept-all homes (k ∷ ks) all = λ i. kept-canonical homes k all.0 i ∷ kept-all homes ks all.1 i

  pub rings-canonical : (ks : List (Face × Half)) → KeepsRings m rows ks → canonical_order (map (kept_ring rows) ks) ≡ m.boundaries
  rings-canonical ks keeps =
      let in_order = whole.v1.canonical in
      let as_written = map-canonical_form (canonical_order m.boundaries) (each_canonical m.boundaries) in
      let whole : map canonical_form m.boundaries ≡ m.boundaries = subst (λ (l : List Boundary). map canonical_form l ≡ l) in_order as_written in
      canonical_order-permuted (map (kept_ring rows) ks) m.boundaries
      (subst (λ (l : List Boundary). IsPermutation l (map canonical_form m.boundaries)) (sym (kept-all keeps.homes ks keeps.each)) (subst (IsPermutation (map (λ (k : Face × Half). keeps.homes k.1) ks)) (sym whole) keeps.all)) ∙ in_order
