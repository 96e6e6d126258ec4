-- The ring round an island passes no point twice.
use Rattle.std.proofs.Common.{◌≡◌, ◌≢◌, ℕ, ◌≤◌, ◌==◌, inl, inr, sym, ap, subst, ◌∙◌, List, [], ◌∷◌, ◌++◌, map, length, arith}
use Rattle.std.specs.Prelude.{flat_map}
use Rattle.std.specs.List.{Contains}
use Rattle.std.proofs.lemmas.Bool.{eqb-true, eq-eqb}
use Rattle.std.proofs.lemmas.List.Sorted.{IsPermutation-append_comm, IsPermutation-sym, Contains-permutation}
use Rattle.std.proofs.lemmas.Option.{same_Some}
use Rattle.cad_rows.specs.declared.names.Face.{Face}
use Rattle.cad_rings.specs.Cycle.{Ring, Side, is_side, opposite, sides_of, corners_of}
use Rattle.cad_map.specs.declared.boundary.Boundary.{Boundary}
use Rattle.cad_map.specs.Map.{Map, all_sides}
use Rattle.cad_map.specs.Valid.{EachPair, IsValid}
use Rattle.cad_map.proofs.CallerLemmas.{All-from_each, All-at_each, Contains-cases, Contains-first, Contains-later, Contains-map, Contains-flat_map, map-Contains, EachPair-append, pairs-IsPermutation, is_side-is, sides-once, one_ring, corner-sides, side_before, side_behind, sides-before}
use Rattle.cad_map.proofs.SharedChains.TwoWays.{two-ways}
use Rattle.map_parts.specs.Islands.{IsIslandOf}
use Rattle.map_parts.proofs.IslandRoom.{ends-around}

-- the sides of each ring are different where all sides are
sides-each : (bs : List Boundary) (b : Boundary) → Contains bs b → EachPair (λ s t. s ≢ t) (flat_map (λ (b : Boundary). sides_of b.ring) bs) → EachPair (λ s t. s ≢ t) (sides_of b.ring)
sides-each [] b there each = let low = there.1 in absurd (omega arith)
sides-each (c ∷ bs) b there each =
    let parts = EachPair-append (λ (s t : Side). s ≢ t) (sides_of c.ring) (flat_map (λ (b : Boundary). sides_of b.ring) bs) each in
    elim (Contains-cases c bs b there) [
      | inl is ↦ subst (λ (x : Boundary). EachPair (λ s t. s ≢ t) (sides_of x.ring)) is parts.0
      | inr later ↦ sides-each bs b later parts.1
    ]

module _ (whole parted : Map) (valid : IsValid parted) (outer inner : Face) (ring : Ring) (left right : Boundary) (others : List Boundary)
    (it : IsIslandOf whole parted outer inner ring left right others) (long : 2 ≤ length ring) where
  among : (b : Boundary) → Contains (left ∷ right ∷ others) b → Contains parted.boundaries b
  among b = Contains-permutation (left ∷ right ∷ others) parted.boundaries b (IsPermutation-sym parted.boundaries (left ∷ right ∷ others) it.were)

  left_there : Contains parted.boundaries left
  left_there = among left (Contains-first left (right ∷ others))

  right_there : Contains parted.boundaries right
  right_there = among right (Contains-later left (right ∷ others) right (Contains-first right others))

  on_left : (s : Side) → Contains (sides_of ring) s → Contains (sides_of left.ring) s
  on_left s = Contains-permutation (sides_of ring) (sides_of left.ring) s it.left_sides

  on_right : (s : Side) → Contains (sides_of ring) s → Contains (sides_of right.ring) (opposite s)
  on_right s h = Contains-permutation (map opposite (sides_of ring)) (sides_of right.ring) (opposite s) it.right_sides (Contains-map opposite (sides_of ring) s h)

  -- the ring doesn't come back along a side
  never-back : (s t : Side) → Contains (sides_of ring) s → Contains (sides_of ring) t → s ≡ opposite t → ⊥
  never-back s t h k is =
      let here = one_ring parted valid s left left_there (on_left s h) in
      let beyond = one_ring parted valid s right right_there (subst (Contains (sides_of right.ring)) (sym is) (on_right t k)) in
      it.differ (sym it.right_face ∙ same_Some right.face left.face (sym beyond ∙ here) ∙ it.left_face)

  -- one side leads to a point
  one-end : (s t : Side) → Contains (sides_of ring) s → Contains (sides_of ring) t → s.1 ≡ t.1 → s ≡ t
  one-end s t h k same =
      let found = map-Contains side_before (corners_of ring) s (subst (λ (l : List Side). Contains l s) (sym (sides-before ring long)) h) in
      let c = found.0 in
      let beside = corner-sides ring long c found.1 in
      let at : c.at ≡ t.1 = ap (λ (x : Side). x.1) found.2 ∙ same in
      let leaves = Contains-flat_map (λ (b : Boundary). sides_of b.ring) parted.boundaries right (opposite t) right_there (on_right t k) in
      let apart : c.before ≢ c.after = λ e. never-back (side_behind c) (side_before c) beside.1 beside.0 (λ i. (c.at, sym e i)) in
      elim (two-ways parted valid c.before c.at c.after t.0 (it.corners.along c found.1) (it.corners.back c found.1) apart
      (subst (λ (p : ℕ). Contains (all_sides parted) (p, t.0)) (sym at) leaves)) [
        | inl is ↦ sym found.2 ∙ (λ i. (sym is i, at i))
        | inr is ↦ absurd (never-back (side_behind c) t beside.1 k (λ i. (at i, sym is i)))
      ]

  sides_differ : EachPair (λ s t. s ≢ t) (sides_of ring)
  sides_differ =
      pairs-IsPermutation is_side is_side-is (sides_of left.ring) (sides_of ring) (IsPermutation-sym (sides_of ring) (sides_of left.ring) it.left_sides)
      (sides-each parted.boundaries left left_there (sides-once parted valid))

  ends-differ : (xs : List Side) → ((s : Side) → Contains xs s → Contains (sides_of ring) s) → EachPair (λ s t. s ≢ t) xs → EachPair (λ a b. a ≢ b) (map (λ (s : Side). s.1) xs)
  ends-differ [] within each = tt
  ends-differ (s ∷ xs) within each = (
    All-from_each (λ b. s.1 ≢ b) (map (λ (t : Side). t.1) xs) (λ b h same.
        let t = map-Contains (λ (t : Side). t.1) xs b h in
        All-at_each (λ t. s ≢ t) xs t.0 each.0 t.1
        (one-end s t.0 (within s (Contains-first s xs)) (within t.0 (Contains-later s xs t.0 t.1)) (same ∙ sym t.2))),
    ends-differ xs (λ t h. within t (Contains-later s xs t h)) each.1,
  )

  ends_each : EachPair (λ a b. a ≢ b) (map (λ (s : Side). s.1) (sides_of ring))
  ends_each = ends-differ (sides_of ring) (λ s h. h) sides_differ

  -- the points of the ring are different
  pub points-differ : EachPair (λ a b. a ≢ b) ring
  points-differ = by ring ends_each
    where
      by : (r : Ring) → EachPair (λ a b. a ≢ b) (map (λ (s : Side). s.1) (sides_of r)) → EachPair (λ a b. a ≢ b) r
      by [] each = tt
      by (a ∷ points) each =
          pairs-IsPermutation (λ a b. a == b) (λ a b. (eqb-true a b, eq-eqb a b)) (points ++ a ∷ []) (a ∷ points) (IsPermutation-append_comm points (a ∷ []))
          (subst (EachPair (λ a b. a ≢ b)) (ends-around a a points a) each)
