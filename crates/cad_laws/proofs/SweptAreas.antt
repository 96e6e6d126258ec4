-- What the area of a face gains where one point goes from one position to another.
use Rattle.std.proofs.Common.{◌≡◌, ◌≢◌, ℕ, inl, inr, refl, sym, ap, ◌∙◌, List, [], ◌∷◌, Bool, true, false, true≢false, Some, ℤ, pos, ◌+ℤ◌, ◌-ℤ◌, neg_ℤ, arith}
use Rattle.std.proofs.lemmas.Int.{ints}
use Rattle.std.proofs.lemmas.Option.{same_Some}
use Rattle.std.specs.Prelude.{flat_map, if◌then◌else◌}
use Rattle.std.specs.List.{Contains}
use Rattle.geo_exact.specs.Measure.{doubled_area, sum_over}
use Rattle.geo_exact.specs.Position.{Position}
use Rattle.geo_exact.proofs.CallerLemmas.{doubled_area-odd}
use Rattle.cad_rows.specs.declared.names.Face.{Face}
use Rattle.cad_rows.specs.declared.rows.StringRow.{StringRow}
use Rattle.cad_rings.specs.Cycle.{Side, has_side, opposite, sides_of, placed}
use Rattle.cad_map.specs.declared.boundary.Boundary.{Boundary}
use Rattle.cad_map.specs.Boundaries.{is_face, sides_in}
use Rattle.cad_map.specs.Map.{Map, position_of, side_of, is_end, far_end, strings_at, string_sides, all_sides, rings_at, left_face, right_face, face_at, face_sides, sum_of_face}
use Rattle.cad_map.specs.Rings.{HasWholeRings}
use Rattle.cad_map.proofs.CallerLemmas.{All-at_each, Contains-first, Contains-later, ends, filter-Contains, first_face-some, is_end-of, is_face-refl, is_face-same}
use Rattle.cad_laws.specs.Areas.{if_beside, HasPointAt, swept, swept_beside, sum_of_strings}
use Rattle.cad_laws.proofs.Totals.{total, total-append, total-same, total-none, total-filter, total-permuted, total-flat_map, strings-total}
use Rattle.cad_laws.proofs.WholeFaces.{one-ring, face-told}

-- ---- Sides of a face, and strings

module _ (m : Map) (whole : HasWholeRings m) where
  -- the two ends of a string differ, since its sides have different faces
  pub ends-differ : (t : StringRow) → Contains m.strings t → t.from ≢ t.to
  ends-differ t there same =
      All-at_each (λ s. left_face m s ≢ right_face m s) m.strings t whole.v5.two_faces there
      (ap (λ (q : ℕ). face_at m (q, t.to)) same
      ∙ ap (λ (q : ℕ). face_at m (t.to, q)) (sym same))

  module _ (f : Face) (h : Side → ℤ) where
    -- the number where the face has the side
    abbrev counted : Side → ℤ
    counted s = if_beside m f s (h s)

    -- each side of the face's rings counts
    counted-own : (b : Boundary) → Contains m.boundaries b → is_face f b.face ≡ true
        → (s : Side) → Contains (sides_of b.ring) s → counted s ≡ h s
    counted-own b there is s has =
        let told = one-ring m whole s b there has ∙ ap Some (sym (is_face-same f b.face is)) in
        ap (λ (v : Bool). if v then h s else pos 0) (first_face-some s m.boundaries f told)

    -- and none of another face's does
    counted-other : (b : Boundary) → Contains m.boundaries b → is_face f b.face ≡ false
        → (s : Side) → Contains (sides_of b.ring) s → counted s ≡ pos 0
    counted-other b there is s has = by (has_side s (face_sides m f)) refl
      where
        by : (v : Bool) → has_side s (face_sides m f) ≡ v
            → (if v then h s else pos 0) ≡ pos 0
        by false e = refl
        by true e =
            let same =
            same_Some f b.face (sym (face-told m whole f s e) ∙ one-ring m whole s b there has) in
            absurd (true≢false (sym (is_face-refl f) ∙ ap (is_face f) same ∙ is))

    -- so the sides of the face's rings among these have what all sides of these have
    picked : (bs : List Boundary) → ((b : Boundary) → Contains bs b → Contains m.boundaries b)
        → total h (flat_map sides_of (rings_at f bs)) ≡ total counted (sides_in bs)
    picked [] within = refl
    picked (b ∷ bs) within =
        by (is_face f b.face) refl (picked bs (λ c k. within c (Contains-later b bs c k)))
      where
        here : Contains m.boundaries b
        here = within b (Contains-first b bs)

        both : total counted (sides_in (b ∷ bs))
            ≡ total counted (sides_of b.ring) +ℤ total counted (sides_in bs)
        both = total-append counted (sides_of b.ring) (sides_in bs)

        by : (v : Bool) → is_face f b.face ≡ v
            → total h (flat_map sides_of (rings_at f bs)) ≡ total counted (sides_in bs)
            → total h (flat_map sides_of (rings_at f (b ∷ bs))) ≡ total counted (sides_in (b ∷ bs))
        by true is rest =
            rw is
            (total-append h (sides_of b.ring) (flat_map sides_of (rings_at f bs))
            ∙ (λ i. total-same h counted (sides_of b.ring)
            (λ s k. sym (counted-own b here is s k)) i +ℤ rest i) ∙ sym both)
        by false is rest =
            let nothing = total-none counted (sides_of b.ring) (counted-other b here is) in
            rw is (rest ∙ after-none (total counted (sides_of b.ring)) _ nothing ∙ sym both)
          where
            after-none : (u z : ℤ) → u ≡ pos 0 → z ≡ u +ℤ z
            after-none u z none = omega (arith, ints)

    -- what the sides of a face have is told string by string
    pub by-strings : total h (face_sides m f)
        ≡ total (λ t. counted (side_of t) +ℤ counted (opposite (side_of t))) m.strings
    by-strings =
        picked m.boundaries (λ b k. k)
        ∙ sym (total-permuted counted (string_sides m) (all_sides m) whole.v5.once)
        ∙ total-flat_map counted (λ t. side_of t ∷ opposite (side_of t) ∷ []) m.strings
        ∙ total-same (λ t. total counted (side_of t ∷ opposite (side_of t) ∷ []))
        (λ t. counted (side_of t) +ℤ counted (opposite (side_of t))) m.strings
        (λ t k. two (counted (side_of t)) (counted (opposite (side_of t))))
      where
        two : (u z : ℤ) → u +ℤ (z +ℤ pos 0) ≡ u +ℤ z
        two u z = omega (arith, ints)

-- ---- One point at two positions

module _ (m x y : Map) (p : ℕ) (a b : Position) (f : Face) (whole : HasWholeRings m)
    (in_x : HasPointAt m x p a) (in_y : HasPointAt m y p b) where
  -- what a side has more where the point lies at the second position
  abbrev gain : Side → ℤ
  gain s =
      doubled_area (position_of y s.0) (position_of y s.1)
      -ℤ doubled_area (position_of x s.0) (position_of x s.1)

  -- the same where the face has the side
  abbrev gain_beside : Side → ℤ
  gain_beside s = if_beside m f s (gain s)

  -- a side from the point gains what is swept
  gain-from : (r : ℕ) → r ≢ p → gain (p, r) ≡ swept a b (position_of m r)
  gain-from r off =
      λ i. doubled_area (in_y.here i) (in_y.elsewhere r off i)
      -ℤ doubled_area (in_x.here i) (in_x.elsewhere r off i)

  -- one to the point gains its opposite
  gain-to : (r : ℕ) → r ≢ p → gain (r, p) ≡ neg_ℤ (swept a b (position_of m r))
  gain-to r off =
      (λ i. doubled_area (in_y.elsewhere r off i) (in_y.here i)
      -ℤ doubled_area (in_x.elsewhere r off i) (in_x.here i))
      ∙ turned _ _ _ _ (doubled_area-odd b (position_of m r)) (doubled_area-odd a (position_of m r))
    where
      turned : (t u v w : ℤ) → t ≡ neg_ℤ v → u ≡ neg_ℤ w → t -ℤ u ≡ neg_ℤ (v -ℤ w)
      turned t u v w h k = omega (arith, ints)

  -- and one between other points gains nothing
  gain-off : (q r : ℕ) → q ≢ p → r ≢ p → gain (q, r) ≡ pos 0
  gain-off q r off too =
      (λ i. doubled_area (in_y.elsewhere q off i) (in_y.elsewhere r too i)
      -ℤ doubled_area (in_x.elsewhere q off i) (in_x.elsewhere r too i))
      ∙ nothing (doubled_area (position_of m q) (position_of m r))
    where
      nothing : (z : ℤ) → z -ℤ z ≡ pos 0
      nothing z = omega (arith, ints)

  -- a side from the point and its opposite
  gain-both : (r : ℕ) → r ≢ p → gain_beside (p, r) +ℤ gain_beside (r, p)
      ≡ if_beside m f (p, r) (swept a b (position_of m r))
      -ℤ if_beside m f (r, p) (swept a b (position_of m r))
  gain-both r off =
      (λ i. if_beside m f (p, r) (gain-from r off i) +ℤ if_beside m f (r, p) (gain-to r off i))
      ∙ turned (has_side (r, p) (face_sides m f)) _ _
    where
      turned : (v : Bool) (u z : ℤ) → u +ℤ (if v then neg_ℤ z else pos 0)
          ≡ u -ℤ (if v then z else pos 0)
      turned true u z = omega (arith, ints)
      turned false u z = omega (arith, ints)

  -- a string at the point has what its two sides have
  at-point : (t : StringRow) → Contains m.strings t → is_end t p ≡ true
      → gain_beside (side_of t) +ℤ gain_beside (opposite (side_of t)) ≡ swept_beside m f p a b t
  at-point t there end = elim (ends t p end) [
    | inl e ↦
        (λ i. gain_beside (e.0 i, e.1 i) +ℤ gain_beside (e.1 i, e.0 i))
        ∙ gain-both (far_end t p) (λ same. ends-differ m whole t there (e.0 ∙ sym same ∙ sym e.1))
    | inr e ↦
        (λ i. gain_beside (e.1 i, e.0 i) +ℤ gain_beside (e.0 i, e.1 i))
        ∙ exchanged (gain_beside (far_end t p, p)) (gain_beside (p, far_end t p))
        ∙ gain-both (far_end t p) (λ same. ends-differ m whole t there (e.1 ∙ same ∙ sym e.0))
  ]
    where
      exchanged : (u z : ℤ) → u +ℤ z ≡ z +ℤ u
      exchanged u z = omega (arith, ints)

  -- and another one nothing
  off-point : (t : StringRow) → Contains m.strings t → is_end t p ≡ false
      → gain_beside (side_of t) +ℤ gain_beside (opposite (side_of t)) ≡ pos 0
  off-point t there no_end =
      λ i. none (has_side (side_of t) (face_sides m f)) (gain (side_of t))
      (gain-off t.from t.to from_off to_off) i
      +ℤ none (has_side (opposite (side_of t)) (face_sides m f)) (gain (opposite (side_of t)))
      (gain-off t.to t.from to_off from_off) i
    where
      from_off : t.from ≢ p
      from_off e = true≢false (sym (is_end-of t p (inl e)) ∙ no_end)

      to_off : t.to ≢ p
      to_off e = true≢false (sym (is_end-of t p (inr e)) ∙ no_end)

      none : (v : Bool) (z : ℤ) → z ≡ pos 0 → (if v then z else pos 0) ≡ pos 0
      none true z h = h
      none false z h = refl

  -- what the sides have at one position, and what they gain, is what they have at the other
  gained : (sides : List Side) → sum_over doubled_area (placed (position_of y) sides)
      ≡ sum_over doubled_area (placed (position_of x) sides) +ℤ total gain sides
  gained [] = refl
  gained (s ∷ sides) =
      more (doubled_area (position_of y s.0) (position_of y s.1))
      (doubled_area (position_of x s.0) (position_of x s.1))
      (sum_over doubled_area (placed (position_of y) sides))
      (sum_over doubled_area (placed (position_of x) sides)) (total gain sides) (gained sides)
    where
      more : (u v over_y over_x gains : ℤ) → over_y ≡ over_x +ℤ gains
          → u +ℤ over_y ≡ (v +ℤ over_x) +ℤ ((u -ℤ v) +ℤ gains)
      more u v over_y over_x gains h = omega (arith, ints)

  -- the face gains what is swept beside the point's strings
  pub gained-beside : total gain (face_sides m f)
      ≡ sum_of_strings (swept_beside m f p a b) (strings_at m p)
  gained-beside =
      by-strings m whole f gain
      ∙ total-filter (λ t. gain_beside (side_of t) +ℤ gain_beside (opposite (side_of t)))
      (λ t. is_end t p) m.strings off-point
      ∙ total-same (λ t. gain_beside (side_of t) +ℤ gain_beside (opposite (side_of t)))
      (swept_beside m f p a b) (strings_at m p)
      (λ t k. let there = filter-Contains (λ t. is_end t p) m.strings t k in
      at-point t there.0 there.1)
      ∙ sym (strings-total (swept_beside m f p a b) (strings_at m p))

  -- What a face's area gains where the point goes from the one to the other is told by the
  -- point's strings.
  pub areas-swept : sum_of_face doubled_area y f
      ≡ sum_of_face doubled_area x f
      +ℤ sum_of_strings (swept_beside m f p a b) (strings_at m p)
  areas-swept =
      ap (λ (sides : List Side). sum_over doubled_area (placed (position_of y) sides))
      (as-in y in_y.boundaries)
      ∙ gained (face_sides m f)
      ∙ (λ i. sum_over doubled_area (placed (position_of x) (sym (as-in x in_x.boundaries) i))
      +ℤ gained-beside i)
    where
      as-in : (other : Map) → other.boundaries ≡ m.boundaries → face_sides other f ≡ face_sides m f
      as-in other same = ap (λ (bs : List Boundary). flat_map sides_of (rings_at f bs)) same
