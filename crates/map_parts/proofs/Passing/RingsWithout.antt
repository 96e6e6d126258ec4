-- The sides of each ring with and without a point between two others.
use Rattle.std.proofs.Common.{◌≡◌, ◌≢◌, ℕ, ◌≤◌, ◌⊎◌, inl, inr, refl, sym, ap, subst, ◌∙◌, List, [], ◌∷◌, ◌++◌, length, map, filter, not, cond, ◌==◌, arith}
use Rattle.std.specs.Prelude.{IsPermutation, count_by, flat_map}
use Rattle.std.specs.List.{Contains}
use Rattle.std.proofs.lemmas.Bool.{eqb-true, eq-eqb}
use Rattle.std.proofs.lemmas.List.Sums.{sum_by-cons, sum_by-append}
use Rattle.std.proofs.lemmas.List.Elements.{Contains-append_left, Contains-append_right, Contains-append_cases}
use Rattle.std.proofs.lemmas.List.Sorted.{IsPermutation-sym, IsPermutation-filter_both, sum_by-IsPermutation, Contains-permutation}
use Rattle.cad_rings.specs.Cycle.{Side, is_side, sides_of, Corner, corners_of}
use Rattle.cad_rings.specs.Surgery.{corner, without}
use Rattle.cad_rings.proofs.CallerLemmas.{sides_of-least_rotation}
use Rattle.cad_map.specs.declared.boundary.Boundary.{Boundary}
use Rattle.cad_map.specs.Boundaries.{bounding, canonical_form}
use Rattle.cad_map.specs.Map.{Map, all_sides, all_corners}
use Rattle.cad_map.specs.Rings.{HasWholeRings}
use Rattle.cad_map.proofs.CallerLemmas.{Contains-cases, Contains-first, Contains-later, Contains-map, Contains-flat_map, Contains-in_part, All-at_each, map-Contains, Contains-filter, filter-Contains, count-map, count-part, corners_at, new_side, old_sides, sides-without, corner-sides, side_before, side_behind, sides-before, once-from_pairs, is_side-refl, one_boundary}
use Rattle.cad_laws.specs.Joining.{IsJoinedAt}
use Rattle.cad_laws.proofs.CallerLemmas.{two-whole}
use Rattle.map_parts.proofs.Passing.OneHand.{one-hand}

module _ {m after : Map} {p a b : ℕ} (it : IsJoinedAt m after p a b) (whole : HasWholeRings m) where
  two : (r : Boundary) → Contains m.boundaries r → 2 ≤ length r.ring
  two r there = All-at_each (λ b. 2 ≤ length b.ring) m.boundaries r (two-whole m whole) there

  -- ---- A ring passes the point once at most

  module _ (r : Boundary) (there : Contains m.boundaries r) where
    abbrev C : List Corner
    C = corners_at p r.ring

    record IsHere (c : Corner) : Type 0 where
      pub in_ring : Contains (corners_of r.ring) c
      pub point : c.at ≡ p
      pub which : (c ≡ corner a p b) ⊎ (c ≡ corner b p a)

    here : (c : Corner) → Contains C c → IsHere c
    here c h =
        let kept = filter-Contains (λ c. c.at == p) (corners_of r.ring) c h in
        let at = eqb-true c.at p kept.1 in
        record {
          in_ring = kept.0;
          point = at;
          which =
              it.at_point c
              (Contains-flat_map (λ (b : Boundary). corners_of b.ring) m.boundaries r c there kept.0)
              at;
        }

    sides : (c : Corner) → IsHere c
        → Contains (sides_of r.ring) (c.before, p) × Contains (sides_of r.ring) (p, c.after)
    sides c k =
        let both = corner-sides r.ring (two r there) c k.in_ring in (
          subst (λ (q : ℕ). Contains (sides_of r.ring) (c.before, q)) k.point both.0,
          subst (λ (q : ℕ). Contains (sides_of r.ring) (q, c.after)) k.point both.1,
        )

    twice : (c d : Corner) (cs : List Corner) → C ≡ c ∷ d ∷ cs → c ≡ d → ⊥
    twice c d cs is same =
        let s = side_before c in
        let amount : Corner → ℕ = λ (g : Corner). cond (is_side s (side_before g)) 1 0 in
        let all = corners_of r.ring in
        let others = filter (λ (c : Corner). not (c.at == p)) all in
        let low = once-from_pairs (all_sides m) whole.once s in
        let part = count-part (is_side s) (λ b. sides_of b.ring) m.boundaries r there in
        let e0 = ap (λ (l : List Side). count_by (is_side s) l) (sides-before r.ring (two r there)) in
        let e1 = count-map side_before (is_side s) all in
        let e2 =
        sum_by-IsPermutation amount all (C ++ others)
        (IsPermutation-filter_both (λ (c : Corner). c.at == p) (λ (c : Corner). not (c.at == p)) (λ c. refl) all) in
        let e3 = sum_by-append amount C others in
        let e4 = ap (λ (l : List Corner). count_by (λ (g : Corner). is_side s (side_before g)) l) is in
        let e5 = sum_by-cons amount c (d ∷ cs) in
        let e6 = sum_by-cons amount d cs in
        let one : ℕ = 1 in
        let x : amount c ≡ one = rw (is_side-refl s) refl in
        let y : amount d ≡ one = ap amount (sym same) ∙ x in
        omega (arith, low, part, e0, e1, e2, e3, e4, e5, e6, x, y)

    crossed : (c d : Corner) → d.after ≡ c.before → IsHere c → IsHere d → ⊥
    crossed c d e k l =
        one-hand m whole r there (c.before, p) (sides c k).0
        (subst (λ (q : ℕ). Contains (sides_of r.ring) (p, q)) e (sides d l).1)

    few : length C ≤ 1
    few = by C refl
      where
        by : (cs : List Corner) → C ≡ cs → length cs ≤ 1
        by [] is = omega arith
        by (c ∷ []) is = omega arith
        by (c ∷ d ∷ cs) is =
            let k = here c (subst (λ (l : List Corner). Contains l c) (sym is) (Contains-first c (d ∷ cs))) in
            let l = here d (subst (λ (l : List Corner). Contains l d) (sym is) (Contains-later c (d ∷ cs) d (Contains-first d cs))) in
            absurd (elim k.which [
              | inl e ↦ elim l.which [
                | inl f ↦ twice c d cs is (e ∙ sym f)
                | inr f ↦ crossed c d (ap (λ (g : Corner). g.after) f ∙ sym (ap (λ (g : Corner). g.before) e)) k l
              ]
              | inr e ↦ elim l.which [
                | inl f ↦ crossed c d (ap (λ (g : Corner). g.after) f ∙ sym (ap (λ (g : Corner). g.before) e)) k l
                | inr f ↦ twice c d cs is (e ∙ sym f)
              ]
            ])

    -- ---- The sides with and without the point

    moved : IsPermutation (map (new_side p) C ++ sides_of r.ring)
        (flat_map (old_sides p) C ++ sides_of (without p r.ring))
    moved = sides-without p r.ring (two r there) few

    -- what goes has the point at an end
    goes-at : (u : Side) → Contains (flat_map (old_sides p) C) u → (u.0 ≡ p) ⊎ (u.1 ≡ p)
    goes-at u gone =
        let part = Contains-in_part (old_sides p) C u gone in
        let k = here part.0 part.1 in
        elim (Contains-cases (side_before part.0) (side_behind part.0 ∷ []) u part.2) [
          | inl e ↦ inr (sym (ap (λ (s : Side). s.1) e) ∙ k.point)
          | inr later ↦ elim (Contains-cases (side_behind part.0) [] u later) [
            | inl e ↦ inl (sym (ap (λ (s : Side). s.0) e) ∙ k.point)
            | inr none ↦ let low = none.1 in absurd (omega arith)
          ]
        ]

    stays-in : (u : Side) → Contains (map (new_side p) C ++ sides_of r.ring) u → u.0 ≢ p → u.1 ≢ p
        → Contains (sides_of (without p r.ring)) u
    stays-in u has zero one =
        let now = Contains-permutation _ _ u moved has in
        elim (Contains-append_cases (flat_map (old_sides p) C) (sides_of (without p r.ring)) u now) [
          | inl gone ↦ elim (goes-at u gone) [ inl e ↦ absurd (zero e) | inr e ↦ absurd (one e) ]
          | inr there ↦ there
        ]

    abbrev pub dropped_ring : Boundary
    dropped_ring = canonical_form (bounding r.face (without p r.ring))

    to-form : (u : Side) → Contains (sides_of (without p r.ring)) u → Contains (sides_of dropped_ring.ring) u
    to-form u h = Contains-permutation _ _ u (sides_of-least_rotation (without p r.ring)) h

    -- a side without the point stays
    pub side-stays : (u : Side) → Contains (sides_of r.ring) u → u.0 ≢ p → u.1 ≢ p
        → Contains (sides_of dropped_ring.ring) u
    side-stays u has zero one =
        to-form u (stays-in u (Contains-append_right (map (new_side p) C) (sides_of r.ring) u has) zero one)

    -- where the ring has a corner at the point, the side past it comes
    side-past : (x y : ℕ) → x ≢ p → y ≢ p → Contains (corners_of r.ring) (corner x p y)
        → Contains (sides_of dropped_ring.ring) (x, y)
    side-past x y zero one has =
        let among =
        Contains-filter (λ c. c.at == p) (corners_of r.ring) (corner x p y) has (eq-eqb p p refl) in
        to-form (x, y)
        (stays-in (x, y)
        (Contains-append_left (map (new_side p) C) (sides_of r.ring) (x, y)
        (Contains-map (new_side p) C (corner x p y) among))
        zero one)

    -- a side without the point was there, or has come past the point
    pub side-was : (u : Side) → Contains (sides_of dropped_ring.ring) u
        → Contains (sides_of r.ring) u
        ⊎ (((u ≡ (a, b)) × Contains (sides_of r.ring) (a, p))
        ⊎ ((u ≡ (b, a)) × Contains (sides_of r.ring) (b, p)))
    side-was u has =
        let plain = Contains-permutation _ _ u (IsPermutation-sym _ _ (sides_of-least_rotation (without p r.ring))) has in
        let was =
        Contains-permutation _ _ u (IsPermutation-sym _ _ moved)
        (Contains-append_right (flat_map (old_sides p) C) (sides_of (without p r.ring)) u plain) in
        elim (Contains-append_cases (map (new_side p) C) (sides_of r.ring) u was) [
          | inl new ↦
              let c = map-Contains (new_side p) C u new in
              let k = here c.0 c.1 in
              let first = (sides c.0 k).0 in
              elim k.which [
                | inl e ↦ inr (inl (sym c.2 ∙ ap (new_side p) e, subst (λ (g : Corner). Contains (sides_of r.ring) (g.before, p)) e first))
                | inr e ↦ inr (inr (sym c.2 ∙ ap (new_side p) e, subst (λ (g : Corner). Contains (sides_of r.ring) (g.before, p)) e first))
              ]
          | inr there ↦ inl there
        ]

  -- ---- The two rings through the point

  through : (x y : ℕ) → x ≢ p → y ≢ p → Contains (all_corners m) (corner x p y) → (r : Boundary)
      → (there : Contains m.boundaries r)
      → Contains (sides_of r.ring) (x, p) ⊎ Contains (sides_of r.ring) (p, y)
      → Contains (sides_of (dropped_ring r there).ring) (x, y)
  through x y zero one at r there on =
      let part = Contains-in_part (λ (b : Boundary). corners_of b.ring) m.boundaries (corner x p y) at in
      let both = corner-sides part.0.ring (two part.0 part.1) (corner x p y) part.2 in
      let same : part.0 ≡ r = elim on [
        | inl has ↦
            one_boundary (x, p) m.boundaries part.0 r (once-from_pairs (all_sides m) whole.once (x, p))
            part.1 there both.0 has
        | inr has ↦
            one_boundary (p, y) m.boundaries part.0 r (once-from_pairs (all_sides m) whole.once (p, y))
            part.1 there both.1 has
      ] in
      side-past r there x y zero one
      (subst (λ (c : Boundary). Contains (corners_of c.ring) (corner x p y)) same part.2)

  -- both sides of the path through the point give way to the one past it
  pub first-past : a ≢ p → b ≢ p → (r : Boundary) (there : Contains m.boundaries r)
      → Contains (sides_of r.ring) (a, p) ⊎ Contains (sides_of r.ring) (p, b)
      → Contains (sides_of (dropped_ring r there).ring) (a, b)
  first-past zero one r there on = through a b zero one it.first_there r there on

  pub second-past : a ≢ p → b ≢ p → (r : Boundary) (there : Contains m.boundaries r)
      → Contains (sides_of r.ring) (b, p) ⊎ Contains (sides_of r.ring) (p, a)
      → Contains (sides_of (dropped_ring r there).ring) (b, a)
  second-past zero one r there on = through b a one zero it.second_there r there on
