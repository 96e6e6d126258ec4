-- Two strings that meet in a point with no third: the sides of a valid map's rings with and without the point.
use Rattle.std.proofs.Common.{◌≡◌, ◌≢◌, ℕ, suc, ◌+◌, ◌≤◌, ◌⊎◌, inl, inr, refl, sym, ap, subst, ◌∙◌, List, [], ◌∷◌, ◌++◌, length, map, filter, Bool, true, cond, not, ◌==◌, arith}
use Rattle.std.specs.Prelude.{IsPermutation, count_by, flat_map}
use Rattle.std.specs.List.{AllByRecursion, Contains}
use Rattle.std.proofs.lemmas.Bool.{eqb-true, eq-eqb}
use Rattle.std.proofs.lemmas.List.Sums.{sum_by-cons, sum_by-append}
use Rattle.std.proofs.lemmas.List.Sorted.{IsPermutation-sym, IsPermutation-filter_both, IsPermutation-map, sum_by-IsPermutation, Contains-permutation}
use Rattle.cad_rows.specs.declared.rows.StringRow.{StringRow}
use Rattle.cad_rings.specs.Cycle.{Side, is_side, opposite, sides_of, Corner, corners_of}
use Rattle.cad_rings.specs.Surgery.{corner}
use Rattle.cad_map.specs.declared.boundary.Boundary.{Boundary}
use Rattle.cad_map.specs.Boundaries.{sides_in, corners_in}
use Rattle.cad_map.specs.Map.{Map, side_of, is_end, far_end, strings_at, string_sides, all_sides}
use Rattle.cad_map.specs.Valid.{IsValid}
use Rattle.cad_map.proofs.Lists.Elements.{Contains-cases, Contains-first, Contains-later, Contains-flat_map, Contains-in_part, All-at_each, All-from_each}
use Rattle.cad_map.proofs.Lists.ElementFacts.{Contains-filter, filter-Contains, map-Contains}
use Rattle.cad_map.proofs.Lists.EachElement.{All-follows}
use Rattle.cad_map.proofs.Walks.Counted.{times, times-cons, times-permuted, times-flat_map, counted-Contains}
use Rattle.cad_map.proofs.Walks.CornersAt.{permuted-two, corners_at, new_side, old_sides}
use Rattle.cad_map.proofs.Edits.JoinedRings.{corner-sides, count-filter, count-part, at-point, dropped, sides-dropped}
use Rattle.cad_map.proofs.Walks.AlongRing.{side_before, sides_in-before, HaveDistinctSides, once-from_pairs, corner-once, is_side-refl}
use Rattle.cad_map.proofs.Ends.Meetings.{ends, is_end-of}
use Rattle.cad_map.proofs.Boundaries.FacesBeside.{IsBeside, sides-once, in_all, of_string}
use Rattle.cad_map.proofs.Boundaries.TwoFaces.{apart-valid}

-- both sides of each of these strings
abbrev pub both : StringRow → List Side
both r = side_of r ∷ opposite (side_of r) ∷ []

-- how often a side stands in a list of one
abbrev amount : Side → Side → ℕ
amount u s = cond (is_side u s) 1 0

itself : (u : Side) → amount u u ≡ suc 0
itself u = rw (is_side-refl u) refl

-- the sides of a string that ends at p
both-at : (u : Side) (r : StringRow) (p : ℕ) → is_end r p ≡ true → times u (both r) ≡ times u ((far_end r p, p) ∷ (p, far_end r p) ∷ [])
both-at u r p end = elim (ends r p end) [
  | inl e ↦
      let a = times-cons u (side_of r) (opposite (side_of r) ∷ []) in
      let b = times-cons u (opposite (side_of r)) [] in
      let c = times-cons u (far_end r p, p) ((p, far_end r p) ∷ []) in
      let d = times-cons u (p, far_end r p) [] in
      let x : amount u (side_of r) ≡ amount u (p, far_end r p) = λ i. amount u (e.0 i, e.1 i) in
      let y : amount u (opposite (side_of r)) ≡ amount u (far_end r p, p) = λ i. amount u (e.1 i, e.0 i) in
      omega (arith, a, b, c, d, x, y)
  | inr e ↦
      let a = times-cons u (side_of r) (opposite (side_of r) ∷ []) in
      let b = times-cons u (opposite (side_of r)) [] in
      let c = times-cons u (far_end r p, p) ((p, far_end r p) ∷ []) in
      let d = times-cons u (p, far_end r p) [] in
      let x : amount u (side_of r) ≡ amount u (far_end r p, p) = λ i. amount u (e.1 i, e.0 i) in
      let y : amount u (opposite (side_of r)) ≡ amount u (p, far_end r p) = λ i. amount u (e.0 i, e.1 i) in
      omega (arith, a, b, c, d, x, y)
]

module _ (m : Map) (valid : IsValid m) (p : ℕ) (s t : StringRow) (at : IsPermutation (strings_at m p) (s ∷ t ∷ [])) where
  abbrev pub a : ℕ
  a = far_end s p

  abbrev pub b : ℕ
  b = far_end t p

  -- the strings that don't end at the point
  abbrev pub left : List StringRow
  left = filter (λ r. not (is_end r p)) m.strings

  pub at-first : Contains m.strings s × (is_end s p ≡ true)
  at-first = filter-Contains (λ r. is_end r p) m.strings s (Contains-permutation (s ∷ t ∷ []) (strings_at m p) s (IsPermutation-sym (strings_at m p) (s ∷ t ∷ []) at) (Contains-first s (t ∷ [])))

  pub at-second : Contains m.strings t × (is_end t p ≡ true)
  at-second = filter-Contains (λ r. is_end r p) m.strings t (Contains-permutation (s ∷ t ∷ []) (strings_at m p) t (IsPermutation-sym (strings_at m p) (s ∷ t ∷ []) at) (Contains-later s (t ∷ []) t (Contains-first t [])))

  -- a string that ends at the point is one of the two
  pub one-of : (r : StringRow) → Contains m.strings r → is_end r p ≡ true → (r ≡ s) ⊎ (r ≡ t)
  one-of r there end = elim (Contains-cases s (t ∷ []) r (Contains-permutation (strings_at m p) (s ∷ t ∷ []) r at (Contains-filter (λ r. is_end r p) m.strings r there end))) [
    | inl e ↦ inl (sym e)
    | inr later ↦ elim (Contains-cases t [] r later) [ inl e ↦ inr (sym e) | inr none ↦ let low = none.1 in absurd (omega arith) ]
  ]

  -- the sides of all strings: of the two, and of those left
  pub parted : (u : Side) → times u (string_sides m) ≡ times u ((a, p) ∷ (p, a) ∷ (b, p) ∷ (p, b) ∷ []) + times u (flat_map both left)
  parted u =
      let e0 = times-flat_map u both m.strings in
      let e1 = sum_by-IsPermutation (λ r. times u (both r)) m.strings (strings_at m p ++ left) (IsPermutation-filter_both (λ r. is_end r p) (λ r. not (is_end r p)) (λ r. refl) m.strings) in
      let e2 = sum_by-append (λ r. times u (both r)) (strings_at m p) left in
      let e3 = sum_by-IsPermutation (λ r. times u (both r)) (strings_at m p) (s ∷ t ∷ []) at in
      let e4 = sum_by-cons (λ r. times u (both r)) s (t ∷ []) in
      let e5 = sum_by-cons (λ r. times u (both r)) t [] in
      let e6 = both-at u s p at-first.1 in
      let e7 = both-at u t p at-second.1 in
      let e8 = times-flat_map u both left in
      let a1 = times-cons u (a, p) ((p, a) ∷ (b, p) ∷ (p, b) ∷ []) in
      let a2 = times-cons u (p, a) ((b, p) ∷ (p, b) ∷ []) in
      let a3 = times-cons u (b, p) ((p, b) ∷ []) in
      let a4 = times-cons u (p, b) [] in
      let b1 = times-cons u (a, p) ((p, a) ∷ []) in
      let b2 = times-cons u (p, a) [] in
      let b3 = times-cons u (b, p) ((p, b) ∷ []) in
      omega (arith, e0, e1, e2, e3, e4, e5, e6, e7, e8, a1, a2, a3, a4, b1, b2, b3)

  few : (u : Side) → times u (string_sides m) ≤ 1
  few u =
      let e = times-permuted u (string_sides m) (all_sides m) valid.sound.v5.once in
      let k = once-from_pairs (all_sides m) (sides-once m valid) u in
      omega (arith, e, k)

  pub differ : a ≢ b
  differ same =
      let e = parted (a, p) in
      let k = few (a, p) in
      let a1 = times-cons (a, p) (a, p) ((p, a) ∷ (b, p) ∷ (p, b) ∷ []) in
      let a2 = times-cons (a, p) (p, a) ((b, p) ∷ (p, b) ∷ []) in
      let a3 = times-cons (a, p) (b, p) ((p, b) ∷ []) in
      let one : ℕ = 1 in
      let x : amount (a, p) (a, p) ≡ one = rw (is_side-refl (a, p)) refl in
      let y : amount (a, p) (b, p) ≡ one = ap (λ (q : ℕ). amount (a, p) (q, p)) (sym same) ∙ x in
      omega (arith, e, k, a1, a2, a3, x, y)

  two-ends : (r : StringRow) → Contains m.strings r → r.from ≢ r.to
  two-ends r there = All-at_each (λ (r : StringRow). r.from ≢ r.to) m.strings r valid.sound.v2 there

  -- the far ends aren't the point
  pub away : (r : StringRow) → Contains m.strings r → is_end r p ≡ true → far_end r p ≢ p
  away r there end same = elim (ends r p end) [
    | inl e ↦ two-ends r there (e.0 ∙ sym same ∙ sym e.1)
    | inr e ↦ two-ends r there (e.1 ∙ same ∙ sym e.0)
  ]

  -- a side to the point, or from it, has one of the two far ends at its other end
  far : (r : StringRow) → Contains m.strings r → (x : ℕ) → ((r.from ≡ x) × (r.to ≡ p)) ⊎ ((r.from ≡ p) × (r.to ≡ x)) → (x ≡ a) ⊎ (x ≡ b)
  far r there x is =
      let end : is_end r p ≡ true = elim is [ inl e ↦ is_end-of r p (inr e.1) | inr e ↦ is_end-of r p (inl e.0) ] in
      let other : x ≡ far_end r p = elim is [
        | inl e ↦ elim (ends r p end) [ inl f ↦ absurd (two-ends r there (f.0 ∙ sym e.1)) | inr f ↦ sym e.0 ∙ f.1 ]
        | inr e ↦ elim (ends r p end) [ inl f ↦ sym e.1 ∙ f.1 | inr f ↦ absurd (two-ends r there (e.0 ∙ sym f.0)) ]
      ] in
      elim (one-of r there end) [ inl e ↦ inl (other ∙ ap (λ (q : StringRow). far_end q p) e) | inr e ↦ inr (other ∙ ap (λ (q : StringRow). far_end q p) e) ]

  -- a side of a string leads between its ends
  ends-of : (r : StringRow) (x y : ℕ) → (◌≡◌ {A = Side} (x, y) (r.from, r.to)) ⊎ (◌≡◌ {A = Side} (x, y) (r.to, r.from)) → ((r.from ≡ x) × (r.to ≡ y)) ⊎ ((r.from ≡ y) × (r.to ≡ x))
  ends-of r x y is = elim is [
    | inl e ↦ inl (ap (λ (v : Side). v.0) (sym e), ap (λ (v : Side). v.1) (sym e))
    | inr e ↦ inr (ap (λ (v : Side). v.1) (sym e), ap (λ (v : Side). v.0) (sym e))
  ]

  far-to : (x : ℕ) → Contains (all_sides m) (x, p) → (x ≡ a) ⊎ (x ≡ b)
  far-to x h =
      let k = of_string m valid (x, p) h in
      far k.string k.there x (ends-of k.string x p k.is)

  far-from : (x : ℕ) → Contains (all_sides m) (p, x) → (x ≡ a) ⊎ (x ≡ b)
  far-from x h =
      let k = of_string m valid (p, x) h in
      far k.string k.there x (elim (ends-of k.string p x k.is) [ inl e ↦ inr e | inr e ↦ inl e ])

  -- ---- The corners at the point

  two : AllByRecursion (λ b. 2 ≤ length b.ring) m.boundaries
  two = All-follows (λ b. 3 ≤ length b.ring) (λ b. 2 ≤ length b.ring) (λ b h. omega (arith, h)) m.boundaries valid.sound.v5.three

  -- a corner at the point, in a ring
  pub record IsThere (r : Boundary) (c : Corner) : Type 0 where
    pub ring : Contains m.boundaries r
    pub there : Contains (corners_of r.ring) c
    pub point : c.at ≡ p

  module _ (r : Boundary) (c : Corner) (k : IsThere r c) where
    sides : Contains (sides_of r.ring) (c.before, p) × Contains (sides_of r.ring) (p, c.after)
    sides =
        let both = corner-sides r.ring (All-at_each (λ b. 2 ≤ length b.ring) m.boundaries r two k.ring) c k.there in
        (subst (λ (q : ℕ). Contains (sides_of r.ring) (c.before, q)) k.point both.0, subst (λ (q : ℕ). Contains (sides_of r.ring) (q, c.after)) k.point both.1)

    pub beside-before : IsBeside r.face (c.before, p) m.boundaries
    beside-before = record { boundary = r; there = k.ring; face = refl; has = sides.0 }

    pub beside-after : IsBeside r.face (p, c.after) m.boundaries
    beside-after = record { boundary = r; there = k.ring; face = refl; has = sides.1 }

    in-all : (u : Side) → Contains (sides_of r.ring) u → Contains (all_sides m) u
    in-all u h = Contains-flat_map (λ b. sides_of b.ring) m.boundaries r u k.ring h

    turns : c.before ≢ c.after
    turns same =
        (apart-valid m valid).apart (c.before, p) r.face r.face beside-before
        (record { boundary = r; there = k.ring; face = refl; has = subst (λ (q : ℕ). Contains (sides_of r.ring) (p, q)) (sym same) sides.1 }) refl

    -- it leads from the one far end to the other
    pub leads : ((c.before ≡ a) × (c.after ≡ b)) ⊎ ((c.before ≡ b) × (c.after ≡ a))
    leads = elim (far-to c.before (in-all (c.before, p) sides.0)) [
      | inl e ↦ elim (far-from c.after (in-all (p, c.after) sides.1)) [ inl f ↦ absurd (turns (e ∙ sym f)) | inr f ↦ inl (e, f) ]
      | inr e ↦ elim (far-from c.after (in-all (p, c.after) sides.1)) [ inl f ↦ inr (e, f) | inr f ↦ absurd (turns (e ∙ sym f)) ]
    ]

    pub is-one : (c ≡ corner a p b) ⊎ (c ≡ corner b p a)
    is-one = elim leads [
      | inl e ↦ inl (λ i. corner (e.0 i) (k.point i) (e.1 i))
      | inr e ↦ inr (λ i. corner (e.0 i) (k.point i) (e.1 i))
    ]

  pub in_ring-of : (c : Corner) → Contains (filter (λ c. c.at == p) (corners_in m.boundaries)) c → (r : Boundary) × IsThere r c
  in_ring-of c h =
      let kept = filter-Contains (λ c. c.at == p) (corners_in m.boundaries) c h in
      let part = Contains-in_part (λ b. corners_of b.ring) m.boundaries c kept.0 in
      (part.0, record { ring = part.1; there = part.2; point = eqb-true c.at p kept.1 })

  distinct : HaveDistinctSides m.boundaries
  distinct = record { two = two; once = once-from_pairs (all_sides m) (sides-once m valid) }

  -- a corner follows each side to the point
  corner-after : (x : ℕ) → Contains (all_sides m) (x, p) → (c : Corner) × Contains (filter (λ c. c.at == p) (corners_in m.boundaries)) c × (c.before ≡ x)
  corner-after x h =
      let from = map-Contains side_before (corners_in m.boundaries) (x, p) (subst (λ (l : List Side). Contains l (x, p)) (sym (sides_in-before m.boundaries two)) h) in
      (from.0, Contains-filter (λ c. c.at == p) (corners_in m.boundaries) from.0 from.1 (eq-eqb from.0.at p (ap (λ (v : Side). v.1) from.2)), ap (λ (v : Side). v.0) from.2)

  to-point : (x : ℕ) → ((x ≡ a) ⊎ (x ≡ b)) → Contains (all_sides m) (x, p)
  to-point x is =
      in_all m valid (x, p) (counted-Contains (x, p) (string_sides m) (
      let e = parted (x, p) in
      let a1 = times-cons (x, p) (a, p) ((p, a) ∷ (b, p) ∷ (p, b) ∷ []) in
      let a2 = times-cons (x, p) (p, a) ((b, p) ∷ (p, b) ∷ []) in
      let a3 = times-cons (x, p) (b, p) ((p, b) ∷ []) in
      elim is [
        | inl f ↦ let one : ℕ = 1 in let y : amount (x, p) (a, p) ≡ one = ap (λ (q : ℕ). amount (x, p) (q, p)) (sym f) ∙ itself (x, p) in omega (arith, e, a1, y)
        | inr f ↦ let one : ℕ = 1 in let y : amount (x, p) (b, p) ≡ one = ap (λ (q : ℕ). amount (x, p) (q, p)) (sym f) ∙ itself (x, p) in omega (arith, e, a1, a2, a3, y)
      ]))

  pub the-corners : IsPermutation (filter (λ c. c.at == p) (corners_in m.boundaries)) (corner a p b ∷ corner b p a ∷ [])
  the-corners =
      permuted-two side_before (filter (λ c. c.at == p) (corners_in m.boundaries)) (corner a p b) (corner b p a) first second (λ e. differ (ap (λ (c : Corner). c.before) e))
      (λ c h. let k = in_ring-of c h in is-one k.0 c k.1)
      (λ u. let e = corner-once m.boundaries distinct u in let k = count-filter (λ c. is_side u (side_before c)) (λ (c : Corner). c.at == p) (corners_in m.boundaries) in omega (arith, e, k))
    where
      first : Contains (filter (λ c. c.at == p) (corners_in m.boundaries)) (corner a p b)
      first =
          let k = corner-after a (to-point a (inl refl)) in
          let r = in_ring-of k.0 k.1 in
          elim (is-one r.0 k.0 r.1) [
            | inl e ↦ subst (Contains (filter (λ c. c.at == p) (corners_in m.boundaries))) e k.1
            | inr e ↦ absurd (differ (sym k.2 ∙ ap (λ (c : Corner). c.before) e))
          ]

      second : Contains (filter (λ c. c.at == p) (corners_in m.boundaries)) (corner b p a)
      second =
          let k = corner-after b (to-point b (inr refl)) in
          let r = in_ring-of k.0 k.1 in
          elim (is-one r.0 k.0 r.1) [
            | inl e ↦ absurd (differ (sym (ap (λ (c : Corner). c.before) e) ∙ k.2))
            | inr e ↦ subst (Contains (filter (λ c. c.at == p) (corners_in m.boundaries))) e k.1
          ]

  -- a ring passes the point at most once
  pub at-most-one : AllByRecursion (λ r. length (corners_at p r.ring) ≤ 1) m.boundaries
  at-most-one = All-from_each (λ r. length (corners_at p r.ring) ≤ 1) m.boundaries one
    where
      one : (r : Boundary) → Contains m.boundaries r → length (corners_at p r.ring) ≤ 1
      one r there = by (corners_at p r.ring) refl
        where
          in-ring : (cs : List Corner) → corners_at p r.ring ≡ cs → (c : Corner) → Contains cs c → IsThere r c
          in-ring cs is c h =
              let kept = filter-Contains (λ c. c.at == p) (corners_of r.ring) c (subst (λ (l : List Corner). Contains l c) (sym is) h) in
              record { ring = there; there = kept.0; point = eqb-true c.at p kept.1 }

          same : (c d : Corner) (cs : List Corner) → corners_at p r.ring ≡ c ∷ d ∷ cs → c.before ≡ d.before → IsThere r c → IsThere r d → ⊥
          same c d cs is e k l =
              let u = side_before c in
              let test : Corner → Bool = λ f. is_side u (side_before f) in
              let low = corner-once m.boundaries distinct u in
              let part = count-part test (λ b. corners_of b.ring) m.boundaries r there in
              let kept = count-filter test (λ (c : Corner). c.at == p) (corners_of r.ring) in
              let here = ap (λ (l : List Corner). count_by test l) is in
              let a1 = sum_by-cons (λ (f : Corner). cond (test f) 1 0) c (d ∷ cs) in
              let a2 = sum_by-cons (λ (f : Corner). cond (test f) 1 0) d cs in
              let one : ℕ = 1 in
              let x : amount u (side_before c) ≡ one = itself u in
              let y : amount u (side_before d) ≡ one = (λ i. amount u (sym e i, (l.point ∙ sym k.point) i)) ∙ x in
              omega (arith, low, part, kept, here, a1, a2, x, y)

          crossed : (c d : Corner) → d.after ≡ c.before → IsThere r c → IsThere r d → ⊥
          crossed c d e k l =
              (apart-valid m valid).apart (c.before, p) r.face r.face (beside-before r c k)
              (subst (λ (q : ℕ). IsBeside r.face (p, q) m.boundaries) e (beside-after r d l)) refl

          by : (cs : List Corner) → corners_at p r.ring ≡ cs → length cs ≤ 1
          by [] is = omega arith
          by (c ∷ []) is = omega arith
          by (c ∷ d ∷ cs) is =
              let k = in-ring (c ∷ d ∷ cs) is c (Contains-first c (d ∷ cs)) in
              let l = in-ring (c ∷ d ∷ cs) is d (Contains-later c (d ∷ cs) d (Contains-first d cs)) in
              absurd (elim (leads r c k) [
                | inl e ↦ elim (leads r d l) [ inl f ↦ same c d cs is (e.0 ∙ sym f.0) k l | inr f ↦ crossed c d (f.1 ∙ sym e.0) k l ]
                | inr e ↦ elim (leads r d l) [ inl f ↦ crossed c d (f.1 ∙ sym e.0) k l | inr f ↦ same c d cs is (e.0 ∙ sym f.0) k l ]
              ])

  -- the sides of the rings without the point: those of the strings left, and the new string's
  pub once-join : (u : Side) → times u (sides_in (map (dropped p) m.boundaries)) ≡ times u (flat_map both left) + times u ((a, b) ∷ (b, a) ∷ [])
  once-join u =
      let K = filter (λ c. c.at == p) (corners_in m.boundaries) in
      let all = sides-dropped p u m.boundaries two at-most-one in
      let e0 = ap (λ (l : List Corner). times u (map (new_side p) l)) (at-point p m.boundaries) in
      let e1 = ap (λ (l : List Corner). times u (flat_map (old_sides p) l)) (at-point p m.boundaries) in
      let e2 = times-permuted u (map (new_side p) K) ((a, b) ∷ (b, a) ∷ []) (IsPermutation-map (new_side p) K (corner a p b ∷ corner b p a ∷ []) the-corners) in
      let e3 = times-flat_map u (old_sides p) K ∙ sym (sum_by-IsPermutation (λ c. times u (old_sides p c)) K (corner a p b ∷ corner b p a ∷ []) the-corners) in
      let e4 = sum_by-cons (λ c. times u (old_sides p c)) (corner a p b) (corner b p a ∷ []) in
      let e5 = sum_by-cons (λ c. times u (old_sides p c)) (corner b p a) [] in
      let e6 = times-permuted u (string_sides m) (all_sides m) valid.sound.v5.once in
      let e7 = parted u in
      let a1 = times-cons u (a, p) ((p, a) ∷ (b, p) ∷ (p, b) ∷ []) in
      let a2 = times-cons u (p, a) ((b, p) ∷ (p, b) ∷ []) in
      let a3 = times-cons u (b, p) ((p, b) ∷ []) in
      let a4 = times-cons u (p, b) [] in
      let b1 = times-cons u (a, p) ((p, b) ∷ []) in
      let b2 = times-cons u (b, p) ((p, a) ∷ []) in
      let b3 = times-cons u (p, a) [] in
      omega (arith, all, e0, e1, e2, e3, e4, e5, e6, e7, a1, a2, a3, a4, b1, b2, b3)
