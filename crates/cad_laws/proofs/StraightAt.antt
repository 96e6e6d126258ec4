-- A point between two others, and the way straight from one to the other.
use Rattle.std.proofs.Common.{◌≡◌, ◌≢◌, ℕ, ◌≤◌, ◌⊎◌, inl, inr, refl, sym, ap, subst, ◌∙◌, List, [], ◌∷◌, length, map, not, ◌==◌, cond, arith}
use Rattle.std.proofs.lemmas.Bool.{eqb-true}
use Rattle.std.proofs.lemmas.List.Filters.{sum_by-filter_both}
use Rattle.std.proofs.lemmas.List.Sums.{sum_by-cons}
use Rattle.std.specs.Prelude.{Bool, IsPermutation, count_by}
use Rattle.std.specs.List.{AllByRecursion, Contains}
use Rattle.cad_rings.specs.Cycle.{Side, is_side, sides_of, times_through, Corner, corners_of}
use Rattle.cad_rings.specs.Surgery.{corner}
use Rattle.cad_map.specs.declared.boundary.Boundary.{Boundary}
use Rattle.cad_map.specs.Boundaries.{canonical_form, canonical_order}
use Rattle.cad_map.specs.Map.{Map, all_sides, all_corners, position_of}
use Rattle.cad_map.specs.Rings.{HasWholeRings}
use Rattle.cad_map.specs.Touched.{GoesStraight}
use Rattle.cad_map.specs.Views.{HasSide}
use Rattle.cad_map.proofs.CallerLemmas.{All-at_each, Contains-first, Contains-later, Contains-flat_map, filter-Contains, corner-sides, corners_at, count-map, count-part, dropped, is_side-refl, once-from_pairs, sides-before, side_before, through-corners, canonical_order-permuted, each_canonical, map-canonical_form}
use Rattle.cad_laws.specs.Joining.{IsJoinedAt}
use Rattle.cad_laws.proofs.MapCorners.{corner-in, two-whole}
use Rattle.cad_laws.proofs.PlacedFaces.{has-side, map-map}
use Rattle.cad_laws.proofs.WholeFaces.{side-face, not-both_hands}

-- the one way is as good as the other
pub straight-turned : {bent straight : Map} {p a b : ℕ} → GoesStraight bent straight p a b
    → GoesStraight bent straight p b a
straight-turned it = record {
  first_other = it.second_other;
  second_other = it.first_other;
  elsewhere = it.elsewhere;
  parcels = it.parcels;
  corners = λ c h at. elim (it.corners c h at) [ inl e ↦ inr e | inr e ↦ inl e ];
  once = it.once;
  boundaries = it.boundaries;
}

module _ (bent straight : Map) (p a b : ℕ) (whole : HasWholeRings bent)
    (it : IsJoinedAt bent straight p a b) where
  -- no side leads from the point to itself
  not-itself : (q n : ℕ) → Contains (all_corners bent) (corner q p n) → q ≢ p
  not-itself q n h same =
      let there = (corner-in bent.boundaries (two-whole bent whole) (corner q p n) h).0 in
      let f = side-face bent whole (q, p) there in
      not-both_hands bent whole (q, p) f.0 there f.2
      (subst (HasSide bent f.0) (λ i. (same i, sym same i)) f.2)

  module _ (r : Boundary) (there : Contains bent.boundaries r) where
    two : 2 ≤ length r.ring
    two = All-at_each (λ b. 2 ≤ length b.ring) bent.boundaries r (two-whole bent whole) there

    sides-at : (c : Corner) → Contains (corners_of r.ring) c
        → Contains (sides_of r.ring) (c.before, c.at) × Contains (sides_of r.ring) (c.at, c.after)
    sides-at c h = corner-sides r.ring two c h

    -- the ring doesn't come back to the point the other way
    not-back : Contains (corners_of r.ring) (corner a p b) → Contains (corners_of r.ring) (corner b p a)
        → ⊥
    not-back forth back =
        let to = (sides-at (corner a p b) forth).0 in
        let from = (sides-at (corner b p a) back).1 in
        not-both_hands bent whole (a, p) r.face
        (Contains-flat_map (λ (b : Boundary). sides_of b.ring) bent.boundaries r (a, p) there to)
        (has-side bent r (a, p) there to) (has-side bent r (p, a) there from)

    -- nor the same way
    not-again : (c d : Corner) (cs : List Corner) → corners_at p r.ring ≡ c ∷ d ∷ cs → c ≡ d → ⊥
    not-again c d cs is same =
        let s = side_before c in
        let test : Corner → Bool = λ f. is_side s (side_before f) in
        let amount : Corner → ℕ = λ f. cond (test f) 1 0 in
        let few = once-from_pairs (all_sides bent) whole.once s in
        let part = count-part (is_side s) (λ (b : Boundary). sides_of b.ring) bent.boundaries r there in
        let told = ap (λ (l : List Side). count_by (is_side s) l) (sides-before r.ring two) in
        let moved = count-map side_before (is_side s) (corners_of r.ring) in
        let parted =
        sum_by-filter_both (λ c. c.at == p) (λ c. not (c.at == p)) (λ c. refl) amount
        (corners_of r.ring) in
        let here = ap (λ (l : List Corner). count_by test l) is in
        let one = sum_by-cons amount c (d ∷ cs) in
        let other = sum_by-cons amount d cs in
        let x : amount c ≡ 1 = rw (is_side-refl s) refl in
        let y : amount d ≡ 1 = ap amount (sym same) ∙ x in
        omega (arith, few, part, told, moved, parted, here, one, other, x, y)

    passed-once : times_through p r.ring ≤ 1
    passed-once =
        let e = through-corners p r.ring two in
        let few = by (corners_at p r.ring) refl in
        omega (arith, e, few)
      where
        by : (cs : List Corner) → corners_at p r.ring ≡ cs → length cs ≤ 1
        by [] is = omega arith
        by (c ∷ []) is = omega arith
        by (c ∷ d ∷ cs) is =
            let k = own c (Contains-first c (d ∷ cs)) in
            let l = own d (Contains-later c (d ∷ cs) d (Contains-first d cs)) in
            absurd (elim (which c k) [
              | inl e ↦ elim (which d l) [
                | inl f ↦ not-again c d cs is (e ∙ sym f)
                | inr f ↦ not-back (subst (Contains (corners_of r.ring)) e k.0) (subst (Contains (corners_of r.ring)) f l.0)
              ]
              | inr e ↦ elim (which d l) [
                | inl f ↦ not-back (subst (Contains (corners_of r.ring)) f l.0) (subst (Contains (corners_of r.ring)) e k.0)
                | inr f ↦ not-again c d cs is (e ∙ sym f)
              ]
            ])
          where
            own : (f : Corner) → Contains (c ∷ d ∷ cs) f → Contains (corners_of r.ring) f × (f.at ≡ p)
            own f h =
                let kept =
                filter-Contains (λ c. c.at == p) (corners_of r.ring) f
                (subst (λ (l : List Corner). Contains l f) (sym is) h) in
                (kept.0, eqb-true f.at p kept.1)

            which : (f : Corner) → Contains (corners_of r.ring) f × (f.at ≡ p)
                → (f ≡ corner a p b) ⊎ (f ≡ corner b p a)
            which f k =
                it.at_point f
                (Contains-flat_map (λ (b : Boundary). corners_of b.ring) bent.boundaries r f there k.0)
                k.1

  -- where a point is taken out from between two others, the new map goes straight there
  pub straight-at : canonical_order straight.boundaries ≡ straight.boundaries
      → straight.parcels ≡ bent.parcels
      → ((q : ℕ) → q ≢ p → position_of straight q ≡ position_of bent q)
      → GoesStraight bent straight p a b
  straight-at canonical parcels elsewhere = record {
    first_other = not-itself a b it.first_there;
    second_other = not-itself b a it.second_there;
    elsewhere = elsewhere;
    parcels = parcels;
    corners = it.at_point;
    once = passed-once;
    boundaries =
        canonical_order-permuted (map (dropped p) bent.boundaries) straight.boundaries
        (subst (λ (l : List Boundary). IsPermutation l (map canonical_form straight.boundaries))
        (sym (map-map canonical_form (dropped p) bent.boundaries))
        (subst (IsPermutation _) (sym each) it.boundaries)) ∙ canonical;
  }
    where
      each : map canonical_form straight.boundaries ≡ straight.boundaries
      each =
          map-canonical_form straight.boundaries
          (subst (AllByRecursion (λ b. canonical_form b ≡ b)) canonical
          (each_canonical straight.boundaries))
