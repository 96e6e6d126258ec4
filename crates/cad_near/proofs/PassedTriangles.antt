-- Where all that a moved point's strings swept is clear of other points, and no other string comes near its way, points
-- lie apart and strings meet only at ends.
-- A segment that comes into such a triangle and has no end there leaves it through another side
-- (`PastTriangle`). Of the other two sides one is the way, which nothing comes near, and one is
-- the string as it lay, which no string met in the valid map.
use Rattle.std.proofs.Common.{◌≡◌, ◌≢◌, ℕ, ℤ, pos, ◌⊎◌, inl, inr, refl, sym, ap, subst, ◌∙◌, List, [], ◌∷◌, map, Option, Some, Bool, true, false, true≢false, ◌==◌, eqb-true, arith}
use Rattle.std.proofs.lemmas.Bool.{and_parts, and_from, eqb-false}
use Rattle.std.proofs.lemmas.Int.{ints}
use Rattle.std.proofs.lemmas.List.Sorted.{Contains-permutation, IsPermutation-sym}
use Rattle.std.specs.Prelude.{IsTrue, IfSome, ◌||◌}
use Rattle.std.specs.List.{Contains}
use Rattle.geo_exact.specs.Orientation.{orientation}
use Rattle.geo_exact.specs.Position.{Position}
use Rattle.geo_exact.specs.Segment.{HaveCommonLocation, IsOnSegment}
use Rattle.geo_exact.specs.SignTest.{boxes_overlap, overlaps}
use Rattle.geo_exact.specs.Triangle.{is_outside}
use Rattle.geo_exact.proofs.CallerLemmas.{HaveCommonLocation-first_turned, IsOnSegment-first, IsOnSegment-last, boxes_overlap-HaveCommonLocation, passes_triangle, outside-not_on}
use Rattle.geo_exact.proofs.Toolbox.{by_parts, var, num, ◌⊟◌, ◌⊠◌}
use Rattle.cad_rows.specs.declared.rows.PointRow.{PointRow}
use Rattle.cad_rows.specs.declared.rows.StringRow.{StringRow}
use Rattle.cad_rings.specs.Cycle.{Side, opposite, sides_of}
use Rattle.cad_rings.specs.Surgery.{without}
use Rattle.cad_map.specs.declared.boundary.Boundary.{Boundary}
use Rattle.cad_map.specs.Boundaries.{bounding, canonical_order, sides_in}
use Rattle.cad_map.specs.Crossings.{HaveOnlyStart, IsEndOfBoth}
use Rattle.cad_map.specs.Map.{Map, all_sides, far_end, has_point, is_end, position_of, side_of, string_sides, strings_at}
use Rattle.cad_map.specs.Touched.{Touched, Moved, IsTouched, PointStands, StringStands, ComesByMove, ComesBySplit, neighbours}
use Rattle.cad_map.specs.Valid.{HasSoundRows, HasTwoEnds, IsValid, MeetAtEnds, HasNoCrossing, has_distinct_positions}
use Rattle.cad_map.proofs.CallerLemmas.{All-at_each, All-from_each, Contains-filter, Contains-in_part, Contains-map, EachPair-two, Joins, both_sides, ends, filter-Contains, first_points, is_end-of, joins-end, joins-far, joins-far_end, map-Contains, meet-at_end, meet-no_end, only_start-is, other_end, sides_in-canonical_order}
use Rattle.cad_near.specs.Near.{OfPoint, OfString, IsAlone, IsUncrossed, LiesAtEnds, BearsEnds}
use Rattle.cad_near.specs.Triangles.{MovesClear, SweepsClear, TouchesAlone}
use Rattle.cad_near.proofs.NearPoints.{near-points}
use Rattle.cad_near.proofs.NearStrings.{kept-common, meet-turned, near-strings}
use Rattle.cad_near.proofs.RowsByNumber.{point-position, row-of}
use Rattle.cad_near.proofs.StraightFaces.{in-without}

-- ---- A triangle

-- one with two corners at one position has no area
flat-first : (q a : Position) → orientation q a q ≡ pos 0
flat-first q a =
    by_parts (q.x ∷ q.y ∷ a.x ∷ a.y ∷ []) ((var 2 ⊟ var 0) ⊠ (var 1 ⊟ var 1) ⊟ (var 3 ⊟ var 1) ⊠ (var 0 ⊟ var 0)) (num (pos 0)) (omega arith)

-- a stretch overlaps another that has one of its ends
overlaps-end : (a b c d : ℤ) → overlaps c d b b ≡ true → overlaps a b c d ≡ true
overlaps-end a b c d h = grind (arith, ints, h)

-- the end of a way lies on no segment that doesn't come near the way
end-off : (a b c d : Position) → boxes_overlap a b c d ≡ false → ¬ IsOnSegment c d b
end-off a b c d apart on =
    let near = and_parts (overlaps c.x d.x b.x b.x) (overlaps c.y d.y b.y b.y) (boxes_overlap-HaveCommonLocation c d b b on) in
    true≢false (sym (and_from (overlaps a.x b.x c.x d.x) (overlaps a.y b.y c.y d.y) (overlaps-end a.x b.x c.x d.x near.0) (overlaps-end a.y b.y c.y d.y near.1)) ∙ apart)

module _ (q a b c : Position) (out : is_outside q a b c ≡ true) where
  -- what lies outside lies elsewhere than the first corner
  out-first : ¬ (c ≡ q)
  out-first same = outside-not_on q a b c out (subst (IsOnSegment q b) (sym same) (IsOnSegment-first q b))

  -- and than the last
  out-last : ¬ (c ≡ b)
  out-last same = outside-not_on q a b c out (subst (IsOnSegment q b) (sym same) (IsOnSegment-last q b))

  -- a segment from the first corner to there, on which the last isn't, meets the third side only there
  only-first : ¬ (b ≡ q) → ¬ IsOnSegment q c b → HaveOnlyStart q b c
  only-first apart off = (only_start-is q b c apart out-first).1 (outside-not_on q a b c out, off)

  -- third sides that end at one position, where neither has the other's beginning in its triangle
  only-last : is_outside c a b q ≡ true → ¬ (q ≡ b) → HaveOnlyStart b q c
  only-last back apart =
      (only_start-is b q c apart out-last).1
      ((λ on. outside-not_on q a b c out (HaveCommonLocation-first_turned q b c c on)), (λ on. outside-not_on c a b q back (HaveCommonLocation-first_turned c b q q on)))

-- ---- Ends

module _ (s : StringRow) (p : ℕ) (off : is_end s p ≡ false) where
  -- it isn't the end that it leads from
  not-from : s.from ≢ p
  not-from e = true≢false (sym (is_end-of s p (inl e)) ∙ off)

  -- nor the one that it leads to
  not-to : s.to ≢ p
  not-to e = true≢false (sym (is_end-of s p (inr e)) ∙ off)

-- a string from one point to another, backwards
back : (s : StringRow) (p q : ℕ) → Joins s p q → Joins s q p
back s p q j = record { ends = elim j.ends [ inl e ↦ inr e | inr e ↦ inl e ] }

module _ (m : Map) (s : StringRow) (p q : ℕ) (j : Joins s p q) (c d : Position) where
  -- what a string from one point to another has in common with a segment, the segment between the points has
  along : HaveCommonLocation (position_of m s.from) (position_of m s.to) c d → HaveCommonLocation (position_of m p) (position_of m q) c d
  along common = elim j.ends [
    | inl e ↦ subst (λ (k : ℕ × ℕ). HaveCommonLocation (position_of m k.0) (position_of m k.1) c d) (λ i. (e.0 i, e.1 i)) common
    | inr e ↦ HaveCommonLocation-first_turned (position_of m p) (position_of m q) c d
        (subst (λ (k : ℕ × ℕ). HaveCommonLocation (position_of m k.0) (position_of m k.1) c d) (λ i. (e.0 i, e.1 i)) common)
  ]

  -- and the other way round
  from-along : HaveCommonLocation (position_of m p) (position_of m q) c d → HaveCommonLocation (position_of m s.from) (position_of m s.to) c d
  from-along common = elim j.ends [
    | inl e ↦ subst (λ (k : ℕ × ℕ). HaveCommonLocation (position_of m k.0) (position_of m k.1) c d) (λ i. (sym e.0 i, sym e.1 i)) common
    | inr e ↦ HaveCommonLocation-first_turned (position_of m s.from) (position_of m s.to) c d
        (subst (λ (k : ℕ × ℕ). HaveCommonLocation (position_of m k.0) (position_of m k.1) c d) (λ i. (sym e.1 i, sym e.0 i)) common)
  ]

-- a point that came between the ends of a string had no string before
no_split : (old new : Map) (v : Moved) → IsValid old → ComesBySplit old new v → (s : StringRow) → Contains old.strings s → ¬ (is_end s v.point ≡ true)
no_split old new v valid split s there end = elim (ends s v.point end) [
  | inl e ↦ none (side_of s) (both_sides old s there).0 e.0
  | inr e ↦ none (opposite (side_of s)) (both_sides old s there).1 e.0
]
  where
    bs : List Boundary
    bs = map (λ (r : Boundary). bounding r.face (without v.point r.ring)) new.boundaries

    -- a side of a string that the point would be the first of
    none : (t : Side) → Contains {X = Side} (string_sides old) t → t.0 ≡ v.point → ⊥
    none t t_there first =
        let sides = Contains-permutation (string_sides old) (all_sides old) t valid.sound.v5.once t_there in
        let kept = subst (λ (l : List Boundary). Contains {X = Side} (sides_in l) t) (sym split.straight.boundaries) sides in
        let before = Contains-permutation (sides_in (canonical_order bs)) (sides_in bs) t (IsPermutation-sym (sides_in bs) (sides_in (canonical_order bs)) (sides_in-canonical_order bs)) kept in
        let part = Contains-in_part (λ (b : Boundary). sides_of b.ring) bs t before in
        let r = map-Contains (λ (r : Boundary). bounding r.face (without v.point r.ring)) new.boundaries part.0 part.1 in
        let has = subst (λ (b : Boundary). Contains {X = Side} (sides_of b.ring) t) (sym r.2) part.2 in
        let point = subst (λ (l : List ℕ). Contains l t.0) (first_points (without v.point r.0.ring)) (Contains-map (λ (t : Side). t.0) (sides_of (without v.point r.0.ring)) t has) in
        (in-without v.point r.0.ring t.0 point).1 first

-- ---- The move

module _ (old new : Map) (t : Touched) (v : Moved) (valid : IsValid old) (sound : HasSoundRows new) (two : HasTwoEnds new) (touched : IsTouched old new t) (moved : t.moved ≡ Some v)
    (alone : TouchesAlone new t v.point) (clear : MovesClear new v) where
  abbrev at : Position
  at = position_of new v.point

  -- a point that isn't the moved one stands
  stands : (q : ℕ) → IsTrue (has_point new q) → q ≢ v.point → PointStands old new q
  stands q there other = elim (touched.points q there) [
    | inl named ↦ absurd (other (All-at_each (λ q. q ≡ v.point) t.points q alone.points named))
    | inr a ↦ a
  ]

  -- and so does a string that isn't one of its
  string-stands : (s : StringRow) → Contains new.strings s → is_end s v.point ≡ false → StringStands old new s
  unfolding OfString
  string-stands s there off = elim (All-at_each (λ s. Contains t.strings s.number ⊎ StringStands old new s) new.strings s touched.strings there) [
    | inl named ↦ absurd (true≢false (sym (All-at_each (OfString new (λ s. IsTrue (is_end s v.point))) t.strings s.number alone.strings named s there refl) ∙ off))
    | inr a ↦ a
  ]

  -- both ends of a string are points
  ends-in : (s : StringRow) → Contains new.strings s → IsTrue (has_point new s.from) × IsTrue (has_point new s.to)
  ends-in s there = All-at_each (λ s. IsTrue (has_point new s.from) × IsTrue (has_point new s.to)) new.strings s sound.ends there

  module _ (s : StringRow) (there : Contains new.strings s) (p : ℕ) (end : is_end s p ≡ true) where
    -- the far end of a string from a point is another point
    far-other : far_end s p ≢ p
    far-other same = elim (ends s p end) [
      | inl e ↦ All-at_each (λ s. s.from ≢ s.to) new.strings s two there (e.0 ∙ sym same ∙ sym e.1)
      | inr e ↦ All-at_each (λ s. s.from ≢ s.to) new.strings s two there (e.1 ∙ same ∙ sym e.0)
    ]

    -- which the map has
    far-in : IsTrue (has_point new (far_end s p))
    far-in = elim (ends s p end) [
      | inl e ↦ subst (λ (q : ℕ). IsTrue (has_point new q)) e.1 (ends-in s there).1
      | inr e ↦ subst (λ (q : ℕ). IsTrue (has_point new q)) e.1 (ends-in s there).0
    ]

    -- it is an end of the string
    far-end : is_end s (far_end s p) ≡ true
    far-end = joins-end s (far_end s p) p (back s p (far_end s p) (joins-far s p end))

    -- from which the first point is the far end
    far-back : far_end s (far_end s p) ≡ p
    far-back = joins-far_end s (far_end s p) p far-other (back s p (far_end s p) (joins-far s p end))

  -- ---- One of its strings

  module _ (s : StringRow) (there : Contains new.strings s) (end : is_end s v.point ≡ true) where
    abbrev far : ℕ
    far = far_end s v.point

    abbrev far_at : Position
    far_at = position_of new (far_end s v.point)

    -- it leads to the point
    joins : Joins s far v.point
    joins = back s v.point far (joins-far s v.point end)

    -- its triangle has area, with other points outside
    sweeps : SweepsClear new v s
    sweeps = clear.strings s (Contains-filter (λ s. is_end s v.point) new.strings s there end)

    -- so its ends lie apart
    far-apart : ¬ (at ≡ far_at)
    far-apart same = sweeps.area (ap (orientation far_at v.from) same ∙ flat-first far_at v.from)

    -- other points lie outside of the triangle
    outside : (n : ℕ) → IsTrue (has_point new n) → n ≢ v.point → n ≢ far → is_outside far_at v.from at (position_of new n) ≡ true
    outside n n_in other other_far =
        let r = row-of new n n_in in
        subst (λ (z : Position). is_outside far_at v.from at z ≡ true) r.position (sweeps.points r.row r.there (λ e. other (sym r.number ∙ e)) (λ e. other_far (sym r.number ∙ e)))

    -- a string between the two points, before
    record Before : Type 0 where
      pub string : StringRow
      pub known : Contains old.strings string
      pub joining : Joins string far v.point

    -- the far end stands
    far-stands : PointStands old new far
    far-stands = stands far (far-in s there v.point end) (far-other s there v.point end)

    -- so there was one
    before : Before
    before =
        let here = Contains-filter (λ s. is_end s far) new.strings s there (far-end s there v.point end) in
        let near = (far-stands.strings v.point).0 (subst (Contains (neighbours new far)) (far-back s there v.point end) (Contains-map (λ (s : StringRow). far_end s far) (strings_at new far) s here)) in
        let o = map-Contains (λ (s : StringRow). far_end s far) (strings_at old far) v.point near in
        let f = filter-Contains (λ s. is_end s far) old.strings o.0 o.1 in
        record { string = o.0; known = f.0; joining = subst (Joins o.0 far) o.2 (joins-far o.0 far f.1) }

    -- of which the point was an end
    before-end : is_end before.string v.point ≡ true
    before-end = joins-end before.string v.point far (back before.string far v.point before.joining)

    -- the point lay where it is said to have lain
    lay : position_of old v.point ≡ v.from
    lay = elim (subst (λ (o : Option Moved). IfSome o (λ v. ComesByMove old new v ⊎ ComesBySplit old new v)) moved touched.moved) [
      | inl move ↦ move.from
      | inr split ↦ absurd (no_split old new v valid split before.string before.known before-end)
    ]

    -- ---- It and a string of others

    module _ (r : StringRow) (r_there : Contains new.strings r) (off : is_end r v.point ≡ false) where
      -- the other string stands
      r-stands : StringStands old new r
      r-stands = string-stands r r_there off

      -- and has the ends that it had
      same-ends : (n : ℕ) → is_end r-stands.before n ≡ is_end r n
      same-ends n = λ i. (r-stands.from i == n) || (r-stands.to i == n)

      -- before they met at ends alone
      met : MeetAtEnds old before.string r-stands.before
      met = elim (EachPair-two (MeetAtEnds old) old.strings before.string r-stands.before valid.keeps.v4.strings before.known r-stands.there) [
        | inl same ↦ absurd (true≢false (sym (ap (λ (x : StringRow). is_end x v.point) (sym same) ∙ before-end) ∙ same-ends v.point ∙ off))
        | inr either ↦ elim either [ inl forth ↦ forth | inr turned ↦ meet-turned old r-stands.before before.string turned ]
      ]

      -- so not at all where the other doesn't end at the far end
      met-none : is_end r far ≡ false → ¬ HaveCommonLocation far_at v.from (position_of new r.from) (position_of new r.to)
      met-none off_far common =
          let from = r-stands.from_position ∙ ap (position_of old) (sym r-stands.from) in
          let to = r-stands.to_position ∙ ap (position_of old) (sym r-stands.to) in
          let then = kept-common far-stands.position (sym lay) from to common in
          let shared = met (from-along old before.string far v.point before.joining (position_of old r-stands.before.from) (position_of old r-stands.before.to) then) in
          let of_r = sym (same-ends shared.0) ∙ is_end-of r-stands.before shared.0 shared.1.of_second in
          elim (other_end before.string v.point shared.0 before-end (is_end-of before.string shared.0 shared.1.of_first)) [
            | inl e ↦ true≢false (sym of_r ∙ ap (is_end r) e ∙ off)
            | inr e ↦ true≢false (sym of_r ∙ ap (is_end r) (e ∙ joins-far_end before.string v.point far (λ k. far-other s there v.point end (sym k)) (back before.string far v.point before.joining)) ∙ off_far)
          ]

      -- the point doesn't lie on the other
      off-way : ¬ IsOnSegment (position_of new r.from) (position_of new r.to) at
      off-way = end-off v.from at (position_of new r.from) (position_of new r.to) (clear.way r r_there off)

      -- and the string has nothing in common with that now
      passes-by : is_end r far ≡ false → ¬ HaveCommonLocation far_at at (position_of new r.from) (position_of new r.to)
      passes-by off_far =
          passes_triangle far_at v.from at (position_of new r.from) (position_of new r.to)
          (outside r.from (ends-in r r_there).0 (not-from r v.point off) (not-from r far off_far)) (outside r.to (ends-in r r_there).1 (not-to r v.point off) (not-to r far off_far))
          (met-none off_far)
          (λ common. true≢false (sym (boxes_overlap-HaveCommonLocation v.from at (position_of new r.from) (position_of new r.to) common) ∙ clear.way r r_there off))

      -- so they meet at ends alone
      meets-past : is_end r far ≡ false → MeetAtEnds new s r
      meets-past off_far = (meet-no_end new s r none).0 (λ common. passes-by off_far (along new s far v.point joins (position_of new r.from) (position_of new r.to) common))
        where
          none : (n : ℕ) → ¬ IsEndOfBoth s r n
          none n both = elim (other_end s v.point n end both.of_first) [
            | inl e ↦ true≢false (sym both.of_second ∙ ap (is_end r) e ∙ off)
            | inr e ↦ true≢false (sym both.of_second ∙ ap (is_end r) e ∙ off_far)
          ]

      -- where the other ends at the far end, they meet there alone
      meets-there : is_end r far ≡ true → MeetAtEnds new s r
      meets-there r_end =
          let d = far_end r far in
          let d_end = far-end r r_there far r_end in
          let out = outside d (far-in r r_there far r_end) (λ e. true≢false (sym d_end ∙ ap (is_end r) e ∙ off)) (far-other r r_there far r_end) in
          let off_d = λ (on : IsOnSegment far_at (position_of new d) at). off-way (from-along new r far d (joins-far r far r_end) at at on) in
          let only = only-first far_at v.from at (position_of new d) out far-apart off_d in
          (meet-at_end new s r far (record { of_first = far-end s there v.point end; of_second = r_end })
          (λ e. far-apart (sym (e ∙ ap (position_of new) (far-back s there v.point end))))).0
          (subst (λ (n : ℕ). HaveOnlyStart far_at (position_of new n) (position_of new d)) (sym (far-back s there v.point end)) only)

    -- ---- It and points

    -- no point lies on it but its ends
    bears : BearsEnds new s
    bears r r_there common = by (r.number == v.point) refl (r.number == far) refl
      where
        is-end : (n : ℕ) → is_end s n ≡ true → r.number ≡ n → (s.from ≡ r.number) ⊎ (s.to ≡ r.number)
        is-end n n_end e = elim (ends s n n_end) [ inl k ↦ inl (k.0 ∙ sym e) | inr k ↦ inr (k.0 ∙ sym e) ]

        by : (x : Bool) → (r.number == v.point) ≡ x → (y : Bool) → (r.number == far) ≡ y → (s.from ≡ r.number) ⊎ (s.to ≡ r.number)
        by true is y is_far = is-end v.point end (eqb-true r.number v.point is)
        by false is true is_far = is-end far (far-end s there v.point end) (eqb-true r.number far is_far)
        by false is false is_far =
            absurd (outside-not_on far_at v.from at r.position (sweeps.points r r_there (eqb-false r.number v.point is) (eqb-false r.number far is_far))
            (along new s far v.point joins r.position r.position common))

    -- no other point lies where the point does
    apart : (r : PointRow) → Contains new.points r → r.number ≢ v.point → ¬ (r.position ≡ at)
    apart r r_there other same = by (r.number == far) refl
      where
        by : (y : Bool) → (r.number == far) ≡ y → ⊥
        by true is = far-apart (sym same ∙ sym (point-position new sound r r_there) ∙ ap (position_of new) (eqb-true r.number far is))
        by false is = out-last far_at v.from at r.position (sweeps.points r r_there other (eqb-false r.number far is)) same

  -- ---- Two of its strings

  -- they meet at the point alone
  meets-own : (s r : StringRow) → Contains new.strings s → Contains new.strings r → is_end s v.point ≡ true → is_end r v.point ≡ true → r.number ≢ s.number → MeetAtEnds new s r
  meets-own s r there r_there end r_end other =
      let differ = λ (e : far_end s v.point ≡ far_end r v.point). other (ap (λ (x : StringRow). x.number) (sym (clear.apart s r
      (Contains-filter (λ s. is_end s v.point) new.strings s there end) (Contains-filter (λ s. is_end s v.point) new.strings r r_there r_end) e))) in
      let r_out = outside s there end (far_end r v.point) (far-in r r_there v.point r_end) (far-other r r_there v.point r_end) (λ e. differ (sym e)) in
      let s_out = outside r r_there r_end (far_end s v.point) (far-in s there v.point end) (far-other s there v.point end) differ in
      (meet-at_end new s r v.point (record { of_first = end; of_second = r_end }) (far-apart s there end)).0
      (only-last (position_of new (far_end s v.point)) v.from at (position_of new (far_end r v.point)) r_out s_out (λ e. far-apart s there end (sym e)))

  -- ---- All of them

  -- nothing crosses one of its strings
  uncrossed : (s : StringRow) → Contains new.strings s → is_end s v.point ≡ true → IsUncrossed new s
  uncrossed s there end = record {
    strings = λ r r_there other. by r r_there other (is_end r v.point) refl (is_end r (far_end s v.point)) refl;
    points = bears s there end;
  }
    where
      by : (r : StringRow) → Contains new.strings r → r.number ≢ s.number → (x : Bool) → is_end r v.point ≡ x → (y : Bool) → is_end r (far_end s v.point) ≡ y → MeetAtEnds new s r
      by r r_there other true own y is = meets-own s r there r_there end own other
      by r r_there other false off true is = meets-there s there end r r_there off is
      by r r_there other false off false is = meets-past s there end r r_there off is

  -- the moved point lies on its own strings alone
  lies : (r : PointRow) → Contains new.points r → r.number ≡ v.point → LiesAtEnds new r
  lies r r_there same s there on = by (is_end s v.point) refl
    where
      here : r.position ≡ at
      here = sym (point-position new sound r r_there) ∙ ap (position_of new) same

      by : (x : Bool) → is_end s v.point ≡ x → (s.from ≡ r.number) ⊎ (s.to ≡ r.number)
      by true end = elim (ends s v.point end) [ inl k ↦ inl (k.0 ∙ sym same) | inr k ↦ inr (k.0 ∙ sym same) ]
      by false off =
          absurd (end-off v.from at (position_of new s.from) (position_of new s.to) (clear.way s there off)
          (subst (IsOnSegment (position_of new s.from) (position_of new s.to)) here on))

  -- and where no other point does
  is-alone : (r : PointRow) → Contains new.points r → r.number ≡ v.point → IsAlone new r
  is-alone r r_there same q q_there other at_r =
      let own = filter-Contains (λ s. is_end s v.point) new.strings clear.some.0 clear.some.1 in
      apart clear.some.0 own.0 own.1 q q_there (λ e. other (e ∙ sym same)) (at_r ∙ sym (point-position new sound r r_there) ∙ ap (position_of new) same)

  -- so no two points have the same position
  pub points-apart : IsTrue (has_distinct_positions new)
  unfolding OfPoint
  points-apart = (near-points old new t valid sound two touched).0 (All-from_each (OfPoint new (IsAlone new)) t.points (λ n named r r_there is.
      is-alone r r_there (is ∙ All-at_each (λ q. q ≡ v.point) t.points n alone.points named)))

  -- and strings and points meet only at ends
  pub no-crossing : HasNoCrossing new
  unfolding OfPoint OfString
  no-crossing = (near-strings old new t valid sound touched).0 (
    All-from_each (OfString new (IsUncrossed new)) t.strings (λ n named s there is.
        uncrossed s there (All-at_each (OfString new (λ s. IsTrue (is_end s v.point))) t.strings n alone.strings named s there is)),
    All-from_each (OfPoint new (LiesAtEnds new)) t.points (λ n named r r_there is.
        lies r r_there (is ∙ All-at_each (λ q. q ≡ v.point) t.points n alone.points named)),
  )
