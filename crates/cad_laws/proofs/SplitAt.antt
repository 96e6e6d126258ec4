-- The corners, sides and boundaries of a map with a string split, from the map after it to the one
-- before: as where two strings are joined.
use Rattle.std.proofs.Common.{◌≡◌, ◌≢◌, ℕ, ◌+◌, ◌≤◌, ◌⊎◌, inl, inr, refl, sym, ap, subst, ◌∙◌, List, [], ◌∷◌, ◌++◌, length, map, Bool, true, false, cond, true≢false, not, ◌==◌, Option, Some, None, is_some, ℤ, arith}
use Rattle.std.specs.Prelude.{IsTrue, IsPermutation, flat_map, if◌then◌else◌}
use Rattle.std.specs.List.{AllByRecursion, Contains}
use Rattle.std.proofs.lemmas.Bool.{eqb-true, eq-eqb}
use Rattle.std.proofs.lemmas.Grind.{flat_map-append}
use Rattle.std.proofs.lemmas.List.Elements.{Contains-append_cases, Contains-append_right}
use Rattle.std.proofs.lemmas.List.Sorted.{IsPermutation-sym, IsPermutation-map, Contains-permutation}
use Rattle.cad_rows.specs.declared.edits.Edit.TheVariants.{Split}
use Rattle.cad_rows.specs.declared.names.Face.{Face}
use Rattle.cad_rows.specs.declared.rows.PointRow.{PointRow}
use Rattle.cad_rows.specs.declared.rows.StringRow.{StringRow}
use Rattle.cad_rings.specs.Cycle.{Ring, Side, is_side, opposite, sides_along, sides_of, Corner, corners_of, IsSameRing}
use Rattle.cad_rings.specs.Canonical.{least_rotation}
use Rattle.cad_rings.specs.Surgery.{corner, without, put_on}
use Rattle.cad_rings.proofs.CallerLemmas.{is_side-same, without-same, least_rotation-same, IsSameRing-least_rotation, IsSameRing-sym}
use Rattle.cad_map.specs.declared.boundary.Boundary.{Boundary}
use Rattle.cad_map.specs.Boundaries.{bounding, canonical_form, canonical_order}
use Rattle.cad_map.specs.Asked.{GivesInRange}
use Rattle.cad_map.specs.Changes.{split}
use Rattle.cad_map.specs.Effects.{after}
use Rattle.cad_map.specs.Refusals.{first_refusal}
use Rattle.numbered_rows.specs.Rows.{without_row}
use Rattle.cad_map.proofs.CallerLemmas.{allowed, free-split, sum-without, found-number, find-Contains, times, times-flat_map, times-permuted, Contains-cases, Contains-first, Contains-later, Contains-flat_map, Contains-in_part, All-at_each, count-some, apart-valid, beside-canonical_order, IsBeside, beside, has_side-Contains, both_sides, in_all, corner-sides, both, split_ring, split_boundary, apart-split, Came, came, old-known, along-known, IsPermutation-canonical_order, whole_valid, string-side-points, side_before, side_behind, is_side-refl, once-from_pairs}
use Rattle.cad_laws.proofs.WholeAfter.{whole-after}
use Rattle.cad_map.specs.Map.{Map, point_of, string_of, has_point, side_of, string_sides, all_sides, all_corners}
use Rattle.cad_map.specs.Rings.{HasWholeRings}
use Rattle.cad_map.specs.Valid.{IsValid}
use Rattle.cad_map.specs.Views.{HasSide}
use Rattle.cad_laws.specs.Joining.{AreNotJoined, WasCorner, IsJoinedAt}
use Rattle.cad_laws.specs.Joining.WasCorner.{stood, before_first, before_second, behind_first, behind_second}
use Rattle.cad_laws.proofs.MapCorners.{corner-in, two-whole, before-one, some-corner}
use Rattle.cad_laws.proofs.PlacedFaces.{has-side, as-shown, map-same, map-map}
use Rattle.cad_laws.proofs.SplitCorners.{image-split}

-- ---- The point put on and dropped again

pub starts-of : (a : ℕ) (points : List ℕ) (z : ℕ)
    → map (λ (s : Side). s.0) (sides_along a points z) ≡ a ∷ points
starts-of a [] z = refl
starts-of a (x ∷ points) z = ap (λ (l : List ℕ). a ∷ l) (starts-of x points z)

without-put : (s : Side) (p : ℕ) (ring : Ring) → without p (put_on s p ring) ≡ without p ring
without-put s p [] = refl
without-put s p (a ∷ points) =
    sides (sides_along a points a) ∙ ap (without p) (starts-of a points a)
  where
    here : p == p ≡ true
    here = eq-eqb p p refl

    sides : (l : List Side) → without p
        (flat_map (λ t. if is_side s t then t.0 ∷ p ∷ [] else t.0 ∷ []) l) ≡ without p
        (map (λ (t : Side). t.0) l)
    sides [] = refl
    sides (t ∷ l) = by (is_side s t) (sides l)
      where
        rest : List ℕ
        rest = flat_map (λ t. if is_side s t then t.0 ∷ p ∷ [] else t.0 ∷ []) l

        by : (b : Bool) → without p rest ≡ without p (map (λ (t : Side). t.0) l)
            → without p ((if b then t.0 ∷ p ∷ [] else t.0 ∷ []) ++ rest) ≡ without p
            (t.0 ∷ map (λ (t : Side). t.0) l)
        by true e = rw here (ap (λ (k : List ℕ). cond (not (t.0 == p)) (t.0 ∷ k) k) e)
        by false e = ap (λ (k : List ℕ). cond (not (t.0 == p)) (t.0 ∷ k) k) e

module _ (m : Map) (valid : IsValid m) (row : StringRow) (there : Contains m.strings row) (p : ℕ)
    (new : point_of m p ≡ None) (x y : ℤ) (first second : ℕ)
    (rings_after : HasWholeRings (split m row p x y first second)) (left : List StringRow)
    (strings : string_sides (split m row p x y first second) ≡ flat_map both left ++
    (row.from, p) ∷ (p, row.from) ∷ (p, row.to) ∷ (row.to, p) ∷ [])
    (parted : (u : Side) → times u (string_sides m) ≡ times u (both row) + times u
    (flat_map both left)) where
  abbrev S : Map
  S = split m row p x y first second

  abbrev f : ℕ
  f = row.from

  abbrev t : ℕ
  t = row.to

  abbrev rings : List Boundary
  rings = map (split_boundary (side_of row) p) m.boundaries

  -- the side is the string's, one way or the other
  abbrev AlongIt : Side → Type 0
  AlongIt u = (u ≡ (f, t)) ⊎ (u ≡ (t, f))

  abbrev IsSide : Side → Side → Type 0
  IsSide u v = u ≡ v

  rings_before : HasWholeRings m
  rings_before = whole_valid m valid

  away : (q : ℕ) → IsTrue (has_point m q) → q ≢ p
  away q known same =
      true≢false
      (sym known ∙ ap (λ (k : ℕ). is_some (point_of m k)) same
      ∙ ap (λ (o : Option PointRow). is_some o) new)

  ends : (f ≢ p) × (t ≢ p)
  ends = let k =
      All-at_each (λ (r : StringRow).
      IsTrue (has_point m r.from) × IsTrue
      (has_point m r.to)) m.strings row valid.sound.v1.ends there in (away f k.0, away t k.1)

  two : f ≢ t
  two = All-at_each (λ (r : StringRow). r.from ≢ r.to) m.strings row valid.sound.v2 there

  off-side : (u : Side) → Contains (all_sides m) u → (u.0 ≢ p) × (u.1 ≢ p)
  off-side u h = let k = string-side-points m rings_before u h in (away u.0 k.0, away u.1 k.1)

  gone : (c : Corner) → Contains (all_corners m) c → (c.before ≢ p) × (c.at ≢ p) × (c.after ≢ p)
  gone c h =
      let sides = corner-in m.boundaries (two-whole m rings_before) c h in (
        (off-side (side_before c) sides.0).0,
        (off-side (side_before c) sides.0).1,
        (off-side (side_behind c) sides.1).1,
      )

  -- ---- The sides after the split

  came-from : (g : Face) (u : Side) → HasSide S g u → Came m valid row there p new g u
  came-from g u has =
      came m valid row there p new g u
      (beside-canonical_order g u rings (beside g u (canonical_order rings) (has_side-Contains u _ has)))

  some-came : (u : Side) → Contains (all_sides S) u → (g : Face) × Came m valid row there p new g u
  some-came u h =
      let part = Contains-in_part (λ (b : Boundary). sides_of b.ring) S.boundaries u h in (
        part.0.face,
        came m valid row there p new part.0.face u
            (beside-canonical_order part.0.face u rings
            (record { boundary = part.0; there = part.1; face = refl; has = part.2 })),
      )

  of-beside : (g : Face) (u : Side) → IsBeside g u m.boundaries → HasSide m g u
  of-beside g u k =
      subst (λ (h : Face). HasSide m h u) (sym k.face) (has-side m k.boundary u k.there k.has)

  in-sides : (g : Face) (u : Side) → IsBeside g u m.boundaries → Contains (all_sides m) u
  in-sides g u k =
      Contains-flat_map (λ (b : Boundary). sides_of b.ring) m.boundaries k.boundary u k.there k.has

  old-side : (u : Side) → Contains (all_sides S) u → u.0 ≢ p → u.1 ≢ p → Contains (all_sides m) u
  old-side u h zero one = by (some-came u h).0 (some-came u h).1
    where
      by : (g : Face) → Came m valid row there p new g u → Contains (all_sides m) u
      by g (Came.whole k) = in-sides g u k
      by g (Came.first_half a b along k e) = absurd (one (ap (λ (s : Side). s.1) e))
      by g (Came.second_half a b along k e) = absurd (zero (ap (λ (s : Side). s.0) e))

  -- no side leads along the string any more
  along-gone : (u : Side) → Contains (all_sides S) u → 1 ≤ times u (both row) → u.0 ≢ p → u.1 ≢ p
      → ⊥
  along-gone u h some zero one =
      let canonical_so =
      subst (λ (l : List Side). Contains l u) strings
      (Contains-permutation (all_sides S) (string_sides S) u
      (IsPermutation-sym (string_sides S) (all_sides S) rings_after.v5.once) h) in
      elim (Contains-append_cases (flat_map both left)
      ((f, p) ∷ (p, f) ∷ (p, t) ∷ (t, p) ∷ []) u canonical_so) [
        | inl k ↦
            let e = parted u in
            let more = count-some (is_side u) (flat_map both left) u k (is_side-refl u) in
            let e2 = times-permuted u (string_sides m) (all_sides m) rings_before.v5.once in
            let few = once-from_pairs (all_sides m) rings_before.once u in
            omega (arith, e, some, more, e2, few)
        | inr k ↦ elim (Contains-cases (f, p) ((p, f) ∷ (p, t) ∷ (t, p) ∷ []) u k) [
          | inl e ↦ one (sym (ap (λ (s : Side). s.1) e))
          | inr k ↦ elim (Contains-cases (p, f) ((p, t) ∷ (t, p) ∷ []) u k) [
            | inl e ↦ zero (sym (ap (λ (s : Side). s.0) e))
            | inr k ↦ elim (Contains-cases (p, t) ((t, p) ∷ []) u k) [
              | inl e ↦ zero (sym (ap (λ (s : Side). s.0) e))
              | inr k ↦ elim (Contains-cases (t, p) [] u k) [
                | inl e ↦ one (sym (ap (λ (s : Side). s.1) e))
                | inr none ↦ let low = none.1 in omega arith
              ]
            ]
          ]
        ]
      ]

  along-counts : (u : Side) → AlongIt u → 1 ≤ times u (both row)
  along-counts u is = count-some (is_side u) (both row) u (elim is [
    | inl e ↦ subst (Contains (both row)) (sym e) (Contains-first (f, t) ((t, f) ∷ []))
    | inr e ↦
        subst (Contains (both row)) (sym e)
        (Contains-later (f, t) ((t, f) ∷ []) (t, f) (Contains-first (t, f) []))
  ]) (is_side-refl u)

  new-side : (u : Side) → Contains ((f, p) ∷ (p, f) ∷ (p, t) ∷ (t, p) ∷ []) u
      → Contains (all_sides S) u
  new-side u h =
      Contains-permutation (string_sides S) (all_sides S) u rings_after.v5.once
      (subst (λ (l : List Side). Contains l u) (sym strings)
      (Contains-append_right (flat_map both left) ((f, p) ∷ (p, f) ∷ (p, t) ∷ (t, p) ∷ []) u h))

  -- no ring turns back on a side
  turns : (c : Corner) → Contains (all_corners S) c → c.before ≢ c.after
  turns c h same =
      let part = Contains-in_part (λ (b : Boundary). corners_of b.ring) S.boundaries c h in
      let sides =
      corner-sides part.0.ring
      (All-at_each (λ b. 2 ≤ length b.ring) S.boundaries part.0
      (two-whole S rings_after) part.1) c part.2 in
      let k : IsBeside part.0.face (c.before, c.at) S.boundaries =
      record { boundary = part.0; there = part.1; face = refl; has = sides.0 } in
      let l : IsBeside part.0.face (c.at, c.before) S.boundaries =
      record {
        boundary = part.0;
        there = part.1;
        face = refl;
        has =
            subst (λ (q : ℕ). Contains (sides_of part.0.ring) (c.at, q)) (sym same) sides.1;
      } in
      (apart-split m valid row there p new).apart (c.before, c.at) part.0.face part.0.face
      (beside-canonical_order part.0.face (c.before, c.at) rings k)
      (beside-canonical_order part.0.face (c.at, c.before) rings l) refl

  turns-before : (c : Corner) → Contains (all_corners m) c → c.before ≢ c.after
  turns-before c h same =
      let part = Contains-in_part (λ (b : Boundary). corners_of b.ring) m.boundaries c h in
      let sides =
      corner-sides part.0.ring
      (All-at_each (λ b. 2 ≤ length b.ring) m.boundaries part.0
      (two-whole m rings_before) part.1) c part.2 in
      (apart-valid m valid).apart (c.before, c.at) part.0.face part.0.face
      (record { boundary = part.0; there = part.1; face = refl; has = sides.0 })
      (record {
        boundary = part.0;
        there = part.1;
        face = refl;
        has =
            subst (λ (q : ℕ). Contains (sides_of part.0.ring) (c.at, q)) (sym same) sides.1;
      }) refl

  -- ---- Images

  abbrev after0 : ℕ → ℕ → ℕ
  after0 v q =
      if is_side (t, f) (v, if is_side (f, t) (v, q) then p else q) then p else
      (if is_side (f, t) (v, q) then p else q)

  abbrev before0 : ℕ → ℕ → ℕ
  before0 o v =
      if is_side (t, f) (if is_side (f, t) (o, v) then p else o, v) then p else
      (if is_side (f, t) (o, v) then p else o)

  same-either : (b : Bool) → (if b then p else p) ≡ p
  same-either true = refl
  same-either false = refl

  -- the side is the string's, or neither test says so
  along-or : (u : Side) (P : Type 0)
      → (is_side (f, t) u ≡ false → is_side (t, f) u ≡ false → P) → AlongIt u ⊎ P
  along-or u P other = by (is_side (f, t) u) refl (is_side (t, f) u) refl
    where
      by : (a : Bool) → is_side (f, t) u ≡ a → (b : Bool) → is_side (t, f) u ≡ b → AlongIt u ⊎ P
      by true e b d = inl (inl (sym (is_side-same (f, t) u e)))
      by false e true d = inl (inr (sym (is_side-same (t, f) u d)))
      by false e false d = inr (other e d)

  after-cases : (v q : ℕ) → AlongIt (v, q) ⊎ (after0 v q ≡ q)
  after-cases v q = along-or (v, q) (after0 v q ≡ q) (λ e d. simp (e, d) refl)

  before-cases : (o v : ℕ) → AlongIt (o, v) ⊎ (before0 o v ≡ o)
  before-cases o v = along-or (o, v) (before0 o v ≡ o) (λ e d. simp (e, d) refl)

  before-along : before0 f t ≡ p
  before-along = let e = is_side-refl (f, t) in simp e (same-either (is_side (t, f) (p, t)))

  before-back : before0 t f ≡ p
  before-back = by (is_side (f, t) (t, f)) refl
    where
      by : (a : Bool) → is_side (f, t) (t, f) ≡ a → before0 t f ≡ p
      by true e = simp e (same-either (is_side (t, f) (p, f)))
      by false e = let d = is_side-refl (t, f) in simp (e, d) refl

  lands : (v q : ℕ) → AlongIt (v, q) → after0 v q ≡ p
  lands v q along = by (is_side (f, t) (v, q)) refl
    where
      by : (a : Bool) → is_side (f, t) (v, q) ≡ a → after0 v q ≡ p
      by true e = simp e (same-either (is_side (t, f) (v, p)))
      by false e = elim along [
        | inl is ↦
            absurd (true≢false (sym (is_side-refl (f, t)) ∙ ap (is_side (f, t)) (sym is) ∙ e))
        | inr is ↦
            let d : is_side (t, f) (v, q) ≡ true =
            ap (is_side (t, f)) is ∙ is_side-refl (t, f) in
            simp (e, d) refl
      ]

  image-there : (o v q : ℕ) → Contains (all_corners m) (corner o v q)
      → Contains (all_corners S) (corner (before0 o v) v (after0 v q))
  image-there o v q h = image-split m row p x y first second (corner o v q) h

  -- an old corner whose first side stands
  old-corner : (c : Corner) → Contains (all_corners S) c → c.before ≢ p → c.at ≢ p
      → (q : ℕ) × Contains (all_corners m) (corner c.before c.at q) × (c.after ≡ after0 c.at q)
  old-corner c h before at =
      let u = side_before c in
      let in_S = (corner-in S.boundaries (two-whole S rings_after) c h).0 in
      let d = some-corner m rings_before u (old-side u in_S before at) in
      let here : Contains (all_corners m) (corner c.before c.at d.0.after) =
      subst (λ (s : Side). Contains (all_corners m) (corner s.0 s.1 d.0.after)) d.2 d.1 in
      let img = image-there c.before c.at d.0.after here in
      elim (before-cases c.before c.at) [
        | inl along ↦ absurd (along-gone u in_S (along-counts u along) before at)
        | inr e ↦
            let same : c ≡ corner (before0 c.before c.at) c.at (after0 c.at d.0.after) =
            before-one S rings_after c
            (corner (before0 c.before c.at) c.at (after0 c.at d.0.after)) h img
            (λ i. (sym e i, c.at)) in
            (d.0.after, here, ap (λ (k : Corner). k.after) same)
      ]

  stays : (c : Corner) → Contains (all_corners S) c → c.before ≢ p → c.at ≢ p → c.after ≢ p
      → Contains (all_corners m) c
  stays c h before at after =
      let k = old-corner c h before at in
      elim (after-cases c.at k.0) [
        | inl along ↦ absurd (after (k.2 ∙ lands c.at k.0 along))
        | inr e ↦
            subst (λ (q : ℕ). Contains (all_corners m) (corner c.before c.at q))
            (sym (k.2 ∙ e)) k.1
      ]

  -- the corner before the point
  to : (w n : ℕ) → ((w ≡ f) × (n ≡ t)) ⊎ ((w ≡ t) × (n ≡ f)) → w ≢ p → (u : ℕ)
      → Contains (all_corners S) (corner u w p) → Contains (all_corners m) (corner u w n)
  to w n which w_away u h =
      let k = old-corner (corner u w p) h (turns (corner u w p) h) w_away in
      elim (after-cases w k.0) [
        | inl along ↦ subst (λ (q : ℕ). Contains (all_corners m) (corner u w q)) (elim along [
          | inl e ↦ elim which [
            | inl is ↦ ap (λ (s : Side). s.1) e ∙ sym is.1
            | inr is ↦ absurd (two (sym (ap (λ (s : Side). s.0) e) ∙ is.0))
          ]
          | inr e ↦ elim which [
            | inl is ↦ absurd (two (sym is.0 ∙ ap (λ (s : Side). s.0) e))
            | inr is ↦ ap (λ (s : Side). s.1) e ∙ sym is.1
          ]
        ]) k.1
        | inr e ↦ absurd ((gone (corner u w k.0) k.1).2 (sym (k.2 ∙ e)))
      ]

  -- and the one behind it
  from : (w n : ℕ) → ((w ≡ f) × (n ≡ t)) ⊎ ((w ≡ t) × (n ≡ f)) → before0 w n ≡ p
      → Contains (all_sides m) (w, n) → (u : ℕ) → Contains (all_corners S) (corner p n u)
      → Contains (all_corners m) (corner w n u)
  from w n which lands side u h =
      let d = some-corner m rings_before (w, n) side in
      let here : Contains (all_corners m) (corner w n d.0.after) =
      subst (λ (s : Side). Contains (all_corners m) (corner s.0 s.1 d.0.after)) d.2 d.1 in
      let img = image-there w n d.0.after here in
      let same : corner p n u ≡ corner (before0 w n) n (after0 n d.0.after) =
      before-one S rings_after (corner p n u)
      (corner (before0 w n) n (after0 n d.0.after)) h img (λ i. (sym lands i, n)) in
      elim (after-cases n d.0.after) [
        | inl along ↦ absurd (turns-before (corner w n d.0.after) here (elim along [
          | inl e ↦ elim which [
            | inl is ↦ absurd (two (sym (ap (λ (s : Side). s.0) e) ∙ is.1))
            | inr is ↦ is.0 ∙ sym (ap (λ (s : Side). s.1) e)
          ]
          | inr e ↦ elim which [
            | inl is ↦ is.0 ∙ sym (ap (λ (s : Side). s.1) e)
            | inr is ↦ absurd (two (sym is.1 ∙ ap (λ (s : Side). s.0) e))
          ]
        ]))
        | inr e ↦
            subst (λ (q : ℕ). Contains (all_corners m) (corner w n q))
            (sym (ap (λ (k : Corner). k.after) same ∙ e)) here
      ]

  -- each corner of the map was, in the map with the point, what a join makes it of
  comes : (c : Corner) → Contains (all_corners m) c → WasCorner S p f t c
  comes c h = elim (before-cases c.before c.at) [
    | inl one ↦ elim (after-cases c.at c.after) [
      | inl other ↦ absurd (turns-before c h (turned-back one other))
      | inr e ↦ elim one [
        | inl is ↦ by_before f t is before-along e (behind_second c.after)
        | inr is ↦ by_before t f is before-back e (behind_first c.after)
      ]
    ]
    | inr d ↦ elim (after-cases c.at c.after) [
      | inl other ↦ elim other [
        | inl is ↦ by_after f t is (lands f t (inl refl)) d (before_first c.before)
        | inr is ↦ by_after t f is (lands t f (inr refl)) d (before_second c.before)
      ]
      | inr e ↦
          stood c
          (subst (Contains (all_corners S)) (λ i. corner (d i) c.at (e i))
          (image-there c.before c.at c.after h))
    ]
  ]
    where
      -- along the string there and back
      turned-back : AlongIt (c.before, c.at) → AlongIt (c.at, c.after) → c.before ≡ c.after
      turned-back one other = elim one [
        | inl is ↦ elim other [
          | inl too ↦ absurd (two (sym (ap (λ (s : Side). s.0) too) ∙ ap (λ (s : Side). s.1) is))
          | inr too ↦ ap (λ (s : Side). s.0) is ∙ sym (ap (λ (s : Side). s.1) too)
        ]
        | inr is ↦ elim other [
          | inl too ↦ ap (λ (s : Side). s.0) is ∙ sym (ap (λ (s : Side). s.1) too)
          | inr too ↦ absurd (two (sym (ap (λ (s : Side). s.1) is) ∙ ap (λ (s : Side). s.0) too))
        ]
      ]

      by_before : (w n : ℕ) → IsSide (c.before, c.at) (w, n) → before0 w n ≡ p
          → after0 c.at c.after ≡ c.after
          → (Contains (all_corners S) (corner p n c.after)
          → WasCorner S p f t (corner w n c.after)) → WasCorner S p f t c
      by_before w n is lands_so e make =
          let zero : c.before ≡ w = ap (λ (s : Side). s.0) is in
          let one : c.at ≡ n = ap (λ (s : Side). s.1) is in
          let img = image-there c.before c.at c.after h in
          let before : before0 c.before c.at ≡ p = (λ i. before0 (zero i) (one i)) ∙ lands_so in
          subst (WasCorner S p f t) (λ i. corner (sym zero i) (sym one i) c.after)
          (make (subst (Contains (all_corners S)) (λ i. corner (before i) (one i) (e i)) img))

      by_after : (w n : ℕ) → IsSide (c.at, c.after) (w, n) → after0 w n ≡ p
          → before0 c.before c.at ≡ c.before
          → (Contains (all_corners S) (corner c.before w p)
          → WasCorner S p f t (corner c.before w n)) → WasCorner S p f t c
      by_after w n is lands_so d make =
          let zero : c.at ≡ w = ap (λ (s : Side). s.0) is in
          let one : c.after ≡ n = ap (λ (s : Side). s.1) is in
          let img = image-there c.before c.at c.after h in
          let behind : after0 c.at c.after ≡ p = (λ i. after0 (zero i) (one i)) ∙ lands_so in
          subst (WasCorner S p f t) (λ i. corner c.before (sym zero i) (sym one i))
          (make (subst (Contains (all_corners S)) (λ i. corner (d i) (zero i) (behind i)) img))

  -- ---- At the point

  leads-to : (o : ℕ) → Contains (all_sides S) (o, p) → (o ≡ f) ⊎ (o ≡ t)
  leads-to o h = by (some-came (o, p) h).0 (some-came (o, p) h).1
    where
      by : (g : Face) → Came m valid row there p new g (o, p) → (o ≡ f) ⊎ (o ≡ t)
      by g (Came.whole k) = absurd ((old-known m valid row there p new g (o, p) k).1 refl)
      by g (Came.first_half a b along k e) = elim along [
        | inl is ↦ inl (ap (λ (s : Side). s.0) e ∙ is.0)
        | inr is ↦ inr (ap (λ (s : Side). s.0) e ∙ is.0)
      ]
      by g (Came.second_half a b along k e) =
          absurd ((along-known m valid row there p new a b along).1
          (sym (ap (λ (s : Side). s.1) e)))

  leads-from : (w : ℕ) → Contains (all_sides S) (p, w) → (w ≡ f) ⊎ (w ≡ t)
  leads-from w h = by (some-came (p, w) h).0 (some-came (p, w) h).1
    where
      by : (g : Face) → Came m valid row there p new g (p, w) → (w ≡ f) ⊎ (w ≡ t)
      by g (Came.whole k) = absurd ((old-known m valid row there p new g (p, w) k).0 refl)
      by g (Came.first_half a b along k e) =
          absurd ((along-known m valid row there p new a b along).0
          (sym (ap (λ (s : Side). s.0) e)))
      by g (Came.second_half a b along k e) = elim along [
        | inl is ↦ inr (ap (λ (s : Side). s.1) e ∙ is.1)
        | inr is ↦ inl (ap (λ (s : Side). s.1) e ∙ is.1)
      ]

  at-point : (c : Corner) → Contains (all_corners S) c → c.at ≡ p
      → (c ≡ corner f p t) ⊎ (c ≡ corner t p f)
  at-point c h is =
      let sides = corner-in S.boundaries (two-whole S rings_after) c h in
      let differ = turns c h in
      let one =
      leads-to c.before (subst (λ (q : ℕ). Contains (all_sides S) (c.before, q)) is sides.0) in
      let other =
      leads-from c.after (subst (λ (q : ℕ). Contains (all_sides S) (q, c.after)) is sides.1) in
      elim one [
        | inl e ↦ elim other [
          | inl d ↦ absurd (differ (e ∙ sym d))
          | inr d ↦ inl (λ i. corner (e i) (is i) (d i))
        ]
        | inr e ↦ elim other [
          | inl d ↦ inr (λ i. corner (e i) (is i) (d i))
          | inr d ↦ absurd (differ (e ∙ sym d))
        ]
      ]

  first-there : Contains (all_corners S) (corner f p t)
  first-there =
      let c = some-corner S rings_after (f, p)
      (new-side (f, p) (Contains-first (f, p) ((p, f) ∷ (p, t) ∷ (t, p) ∷ []))) in
      elim (at-point c.0 c.1 (ap (λ (s : Side). s.1) c.2)) [
        | inl e ↦ subst (Contains (all_corners S)) e c.1
        | inr e ↦ absurd (two (sym (ap (λ (s : Side). s.0) c.2) ∙ ap (λ (k : Corner). k.before) e))
      ]

  second-there : Contains (all_corners S) (corner t p f)
  second-there =
      let c = some-corner S rings_after (t, p)
      (new-side (t, p)
      (Contains-later (f, p) ((p, f) ∷ (p, t) ∷ (t, p) ∷ []) (t, p)
      (Contains-later (p, f) ((p, t) ∷ (t, p) ∷ []) (t, p)
      (Contains-later (p, t) ((t, p) ∷ []) (t, p) (Contains-first (t, p) []))))) in
      elim (at-point c.0 c.1 (ap (λ (s : Side). s.1) c.2)) [
        | inl e ↦ absurd (two (sym (ap (λ (k : Corner). k.before) e) ∙ ap (λ (s : Side). s.0) c.2))
        | inr e ↦ subst (Contains (all_corners S)) e c.1
      ]

  -- ---- Faces and boundaries

  side-stays : (g : Face) (u : Side) → HasSide S g u → u.0 ≢ p → u.1 ≢ p → HasSide m g u
  side-stays g u has zero one = by (came-from g u has)
    where
      by : Came m valid row there p new g u → HasSide m g u
      by (Came.whole k) = of-beside g u k
      by (Came.first_half a b along k e) = absurd (one (ap (λ (s : Side). s.1) e))
      by (Came.second_half a b along k e) = absurd (zero (ap (λ (s : Side). s.0) e))

  side-to : (w n : ℕ) → ((w ≡ f) × (n ≡ t)) ⊎ ((w ≡ t) × (n ≡ f)) → w ≢ p → (g : Face)
      → HasSide S g (w, p) → HasSide m g (w, n)
  side-to w n which w_away g has = by (came-from g (w, p) has)
    where
      by : Came m valid row there p new g (w, p) → HasSide m g (w, n)
      by (Came.whole k) = absurd ((old-known m valid row there p new g (w, p) k).1 refl)
      by (Came.first_half a b along k e) =
          let begins : w ≡ a = ap (λ (s : Side). s.0) e in
          let ends_at : n ≡ b = elim along [
            | inl is ↦ elim which [
              | inl j ↦ j.1 ∙ sym is.1
              | inr j ↦ absurd (two (sym is.0 ∙ sym begins ∙ j.0))
            ]
            | inr is ↦ elim which [
              | inl j ↦ absurd (two (sym j.0 ∙ begins ∙ is.0))
              | inr j ↦ j.1 ∙ sym is.1
            ]
          ] in
          subst (λ (u : Side). HasSide m g u) (λ i. (sym begins i, sym ends_at i))
          (of-beside g (a, b) k)
      by (Came.second_half a b along k e) = absurd (w_away (ap (λ (s : Side). s.0) e))

  abbrev drop : Boundary → Boundary
  drop r = canonical_form (bounding r.face (without p r.ring))

  dropped-again : (r : Boundary) → Contains m.boundaries r
      → drop (canonical_form (split_boundary (side_of row) p r)) ≡ r
  dropped-again r h =
      let R = split_ring (side_of row) p r.ring in
      let same : IsSameRing (without p (least_rotation R)) (without p R) =
      without-same p (least_rotation R) R
      (IsSameRing-sym R (least_rotation R) (IsSameRing-least_rotation R)) in
      let bare : without p R ≡ r.ring =
      without-put (opposite (side_of row)) p (put_on (side_of row) p r.ring)
      ∙ without-put (side_of row) p r.ring ∙ none r h in
      ap (bounding r.face)
      (least_rotation-same (without p (least_rotation R)) (without p R) same
      ∙ ap least_rotation bare) ∙ as-shown m valid r h
    where
      none : (r : Boundary) → Contains m.boundaries r → without p r.ring ≡ r.ring
      none r h =
          all r.ring
          (All-at_each (λ b.
          AllByRecursion (λ q.
          IsTrue (has_point m q)) b.ring) m.boundaries r valid.sound.v1.points_of_rings h)
        where
          all : (l : List ℕ) → AllByRecursion (λ q. IsTrue (has_point m q)) l → without p l ≡ l
          all [] each = refl
          all (q ∷ l) each = by (q == p) refl (all l each.1)
            where
              by : (b : Bool) → (q == p) ≡ b → without p l ≡ l → without p (q ∷ l) ≡ q ∷ l
              by true e rest = absurd (away q each.0 (eqb-true q p e))
              by false e rest = simp e (ap (λ (k : List ℕ). q ∷ k) rest)

  boundaries-back : IsPermutation (map drop S.boundaries) m.boundaries
  boundaries-back =
      let e : map drop (map canonical_form rings) ≡ m.boundaries =
      map-map drop canonical_form rings ∙ map-map (λ r. drop (canonical_form r))
      (split_boundary (side_of row) p) m.boundaries
      ∙ map-same (λ r. drop (canonical_form (split_boundary (side_of row) p r)))
      (λ r. r) m.boundaries dropped-again ∙ itself m.boundaries in
      subst (IsPermutation (map drop S.boundaries)) e
      (IsPermutation-map drop (canonical_order rings) (map canonical_form rings)
      (IsPermutation-sym (map canonical_form rings) (canonical_order rings) (IsPermutation-canonical_order rings)))
    where
      itself : (l : List Boundary) → map (λ r. r) l ≡ l
      itself [] = refl
      itself (r ∷ l) = ap (λ (k : List Boundary). r ∷ k) (itself l)

  -- the string's ends aren't joined any more
  split-apart : AreNotJoined S f t
  split-apart =
      record {
        forth =
            λ h. along-gone (f, t) h (along-counts (f, t) (inl refl)) ends.0 ends.1;
        back =
            λ h. along-gone (t, f) h (along-counts (t, f) (inr refl)) ends.1 ends.0;
      }

  split-at : IsJoinedAt S m p f t
  split-at =
      let sides = both_sides m row there in
      let forth = in_all m valid (f, t) sides.0 in
      let back = in_all m valid (t, f) sides.1 in
      record {
        apart = two;
        first_there = first-there;
        second_there = second-there;
        at_point = at-point;
        gone = gone;
        stays = stays;
        to_first = to f t (inl (refl, refl)) ends.0;
        to_second = to t f (inr (refl, refl)) ends.1;
        from_first = from t f (inr (refl, refl)) before-back back;
        from_second = from f t (inl (refl, refl)) before-along forth;
        comes = comes;
        side_stays = side-stays;
        side_forth = side-to f t (inl (refl, refl)) ends.0;
        side_back = side-to t f (inr (refl, refl)) ends.1;
        boundaries = boundaries-back;
      }

-- A split that isn't refused at once: the new point stands between the string's ends, and no side
-- leads from one to the other.
pub split-between : (m : Map) (s p : ℕ) (x y : ℤ) (first second : ℕ) (row : StringRow) → IsValid m
    → GivesInRange (Split s p x y first second)
    → first_refusal m (Split s p x y first second) ≡ None → string_of m s ≡ Some row
    → IsJoinedAt (after m (Split s p x y first second)) m p row.from row.to
    × AreNotJoined (after m (Split s p x y first second)) row.from row.to
unfolding after
split-between m s p x y first second row valid given none found =
    let free = allowed m (Split s p x y first second) none in
    let number = found-number (λ (r : StringRow). r.number) s m.strings row found in
    let again : string_of m row.number ≡ Some row = ap (λ (k : ℕ). string_of m k) number ∙ found in
    let there : Contains m.strings row =
    (find-Contains (λ (r : StringRow). r.number == s) m.strings row found).0 in
    let new = (free-split m s p x y first second free.taken).0 in
    let left = without_row (λ (r : StringRow). r.number) row.number m.strings in
    let one : StringRow =
    record { number = first; from = row.from; to = p; sources = row.sources } in
    let other : StringRow =
    record { number = second; from = p; to = row.to; sources = row.sources } in
    let rings : HasWholeRings (split m row p x y first second) = let h =
    whole-after m (Split s p x y first second) valid given none tt in rw found at h in
    let sides = flat_map-append both left (one ∷ other ∷ []) in
    let parted : (u : Side) → times u (string_sides m) ≡ times u (both row) + times u
    (flat_map both left) = λ u.
    times-flat_map u both m.strings
    ∙ sum-without (λ (r : StringRow). r.number)
    (λ t. times u (both t)) row.number row m.strings valid.sound.v1.strings.distinct again
    ∙ ap (λ (n : ℕ). times u (both row) + n) (sym (times-flat_map u both left)) in
    rw found (
      split-at m valid row there p new x y first second rings left sides parted,
      split-apart m valid row there p new x y first second rings left sides parted,
    )
