-- Two strings joined at a point: what it keeps of a valid map, and its rings where no rule before is broken.
use Rattle.std.proofs.Common.{◌≡◌, ◌≢◌, ℕ, ◌+◌, ◌≤◌, inl, inr, refl, sym, ap, subst, ◌∙◌, List, [], ◌∷◌, ◌++◌, length, map, filter, Bool, true, false, cond, not, nat_eq, ◌==◌, is_some, true≢false, arith}
use Rattle.std.specs.Prelude.{IsTrue, IsPermutation, flat_map, nat_lt}
use Rattle.std.specs.List.{AllByRecursion, Contains, list_any}
use Rattle.std.proofs.lemmas.Bool.{eqb-true, eq-eqb, false_from_ne_true, not-true}
use Rattle.std.proofs.lemmas.Bool.Decides.{nat_tests}
use Rattle.std.proofs.lemmas.Grind.{flat_map-append}
use Rattle.std.proofs.lemmas.List.Sorted.{IsPermutation-refl, IsPermutation-sym, Contains-permutation}
use Rattle.std.proofs.lemmas.List.Elements.{Contains-append_cases, Contains-append_right}
use Rattle.cad_rows.specs.Limits.{string_limit, source_limit, IsNumber}
use Rattle.cad_rows.specs.declared.edits.Edit.TheVariants.{Join}
use Rattle.cad_rows.specs.declared.names.Face.{Face}
use Rattle.cad_rows.specs.declared.refusals.Rule.TheVariants.{V3, V4}
use Rattle.cad_rows.specs.declared.rows.PointRow.{PointRow}
use Rattle.cad_rows.specs.declared.rows.SourceRow.{SourceRow}
use Rattle.cad_rows.specs.declared.rows.StringRow.{StringRow}
use Rattle.cad_rings.specs.Cycle.{Side, is_side, opposite, sides_of, Corner, corners_of, times_through}
use Rattle.cad_rings.specs.Surgery.{without}
use Rattle.cad_rings.proofs.CallerLemmas.{length-without, from_corner, IsSameRing-length, sides_of-same}
use Rattle.cad_map.specs.declared.boundary.Boundary.{Boundary}
use Rattle.cad_map.specs.Boundaries.{canonical_order, sides_in}
use Rattle.cad_map.specs.Map.{Map, has_point, has_face, side_of, is_end, far_end, strings_at, degree, string_sides, all_sides}
use Rattle.numbered_rows.specs.Rows.{row_with, without_row}
use Rattle.cad_map.specs.Valid.{AreSources, EachPair, HasSoundRows, HasTwoEnds, HasCompleteRings, IsValid, Keeps, CanBeTested}
use Rattle.cad_map.specs.Changes.{both_sources, joined_sources, by_number, string_joining, join, with_boundaries}
use Rattle.cad_map.proofs.Lists.Elements.{Contains-first, Contains-later, Contains-flat_map, All-at_each, All-from_each, count-some, list_any-Contains}
use Rattle.cad_map.proofs.Lists.ElementFacts.{Contains-filter, filter-Contains, map-Contains}
use Rattle.cad_map.proofs.Lists.EachElement.{All-push, All-filter, All-follows, All-map, found-without}
use Rattle.cad_map.proofs.Lists.TakenOut.{EachPair-filter}
use Rattle.numbered_rows.proofs.Removed.{none-filter}
use Rattle.cad_map.proofs.Parcels.AddedRows.{All-join, EachPair-join}
use Rattle.cad_map.proofs.Edits.Allowed.{IsAllowed, not-when, two-joined, free-join}
use Rattle.cad_map.proofs.Ends.Parallel.{string_sides-once}
use Rattle.cad_map.proofs.Walks.Counted.{times-append, permuted-from_times}
use Rattle.cad_map.proofs.Walks.CornersAt.{corners_at, new_side, old_sides, sides-without, through-corners}
use Rattle.cad_map.proofs.Edits.JoinedRings.{dropped}
use Rattle.cad_map.proofs.Edits.JoinedStrings as joined
use Rattle.cad_map.proofs.Edits.JoinedStrings.{both}
use Rattle.cad_map.proofs.Walks.AlongRing.{is_side-refl, once-from_pairs}
use Rattle.cad_map.proofs.Ends.Meetings.{far_end-in}
use Rattle.cad_map.proofs.Boundaries.FacesBeside.{IsBeside, of_string}
use Rattle.cad_map.proofs.Boundaries.TwoFaces.{AreApart, apart-valid, complete}
use Rattle.cad_map.proofs.Edits.KeptRows.{or-none, differs, kept-strings_left, kept-rings, kept-without_point, kept-string, points-of_ring}

module _ (m : Map) (valid : IsValid m) (p : ℕ) (s t : StringRow) (at : IsPermutation (strings_at m p) (s ∷ t ∷ [])) where
  abbrev a : ℕ
  a = far_end s p

  abbrev b : ℕ
  b = far_end t p

  abbrev left : List StringRow
  left = filter (λ r. not (is_end r p)) m.strings

  abbrev rings : List Boundary
  rings = map (dropped p) m.boundaries

  -- the far ends are joined by no string that stays
  pub record AreApartEnds : Type 0 where
    pub forth : ¬ Contains (all_sides m) (a, b)
    pub back : ¬ Contains (all_sides m) (b, a)

  away-first : a ≢ p
  away-first = let k = joined.at-first m valid p s t at in joined.away m valid p s t at s k.0 k.1

  away-second : b ≢ p
  away-second = let k = joined.at-second m valid p s t at in joined.away m valid p s t at t k.0 k.1

  -- a string between the far ends stays
  stays : (u : Side) → Contains (all_sides m) u → u.0 ≢ p → u.1 ≢ p → Contains (flat_map both left) u
  stays u h first second =
      let k = of_string m valid u h in
      let r = k.string in
      elim k.is [
        | inl e ↦
            let off : is_end r p ≡ false = false_from_ne_true (is_end r p) (λ end. no_end r end (λ f. first (ap (λ (v : Side). v.0) e ∙ f)) (λ f. second (ap (λ (v : Side). v.1) e ∙ f))) in
            Contains-flat_map both left r u (Contains-filter (λ r. not (is_end r p)) m.strings r k.there (rw off refl)) (subst (λ (v : Side). Contains (both r) v) (sym e) (Contains-first (side_of r) (opposite (side_of r) ∷ [])))
        | inr e ↦
            let off : is_end r p ≡ false = false_from_ne_true (is_end r p) (λ end. no_end r end (λ f. second (ap (λ (v : Side). v.1) e ∙ f)) (λ f. first (ap (λ (v : Side). v.0) e ∙ f))) in
            Contains-flat_map both left r u (Contains-filter (λ r. not (is_end r p)) m.strings r k.there (rw off refl))
            (subst (λ (v : Side). Contains (both r) v) (sym e) (Contains-later (side_of r) (opposite (side_of r) ∷ []) (opposite (side_of r)) (Contains-first (opposite (side_of r)) [])))
      ]
    where
      no_end : (r : StringRow) → is_end r p ≡ true → r.from ≢ p → r.to ≢ p → ⊥
      no_end r end f g = by (r.from == p) (r.to == p) refl refl end
        where
          by : (x y : Bool) → (r.from == p) ≡ x → (r.to == p) ≡ y → is_end r p ≡ true → ⊥
          by true y e k end = f (eqb-true r.from p e)
          by false true e k end = g (eqb-true r.to p k)
          by false false e k end = true≢false (sym end ∙ rw (e, k) refl)

  -- where no side stands twice among those of the strings left and the new one, the far ends are apart
  pub ends-apart : EachPair (λ x y. x ≢ y) (flat_map both left ++ (a, b) ∷ (b, a) ∷ []) → AreApartEnds
  ends-apart pairs = record {
    forth = λ h. twice (a, b) (stays (a, b) h away-first away-second) (Contains-first (a, b) ((b, a) ∷ []));
    back = λ h. twice (b, a) (stays (b, a) h away-second away-first) (Contains-later (a, b) ((b, a) ∷ []) (b, a) (Contains-first (b, a) []));
  }
    where
      twice : (u : Side) → Contains (flat_map both left) u → Contains ((a, b) ∷ (b, a) ∷ []) u → ⊥
      twice u h k =
          let e = times-append u (flat_map both left) ((a, b) ∷ (b, a) ∷ []) in
          let few = once-from_pairs (flat_map both left ++ (a, b) ∷ (b, a) ∷ []) pairs u in
          let x = count-some (is_side u) (flat_map both left) u h (is_side-refl u) in
          let y = count-some (is_side u) ((a, b) ∷ (b, a) ∷ []) u k (is_side-refl u) in
          omega (arith, e, few, x, y)

  -- ---- Where a side of the new rings comes from

  data Came (f : Face) (u : Side) : Type 0 where
    old : IsBeside f u m.boundaries → Came f u
    forth : u ≡ (a, b) → IsBeside f (a, p) m.boundaries → IsBeside f (p, b) m.boundaries → Came f u
    back : u ≡ (b, a) → IsBeside f (b, p) m.boundaries → IsBeside f (p, a) m.boundaries → Came f u

  two-long : AllByRecursion (λ b. 2 ≤ length b.ring) m.boundaries
  two-long = All-follows (λ b. 3 ≤ length b.ring) (λ b. 2 ≤ length b.ring) (λ b h. omega (arith, h)) m.boundaries valid.sound.v5.three

  came : (f : Face) (u : Side) → IsBeside f u rings → Came f u
  came f u k =
      let from = map-Contains (dropped p) m.boundaries k.boundary k.there in
      let r = from.0 in
      let face : f ≡ r.face = k.face ∙ ap (λ (c : Boundary). c.face) (sym from.2) in
      let has : Contains (sides_of (without p r.ring)) u = subst (λ (c : Boundary). Contains (sides_of c.ring) u) (sym from.2) k.has in
      let two = All-at_each (λ b. 2 ≤ length b.ring) m.boundaries r two-long from.1 in
      let moved = sides-without p r.ring two (All-at_each (λ r. length (corners_at p r.ring) ≤ 1) m.boundaries r (joined.at-most-one m valid p s t at) from.1) in
      let C = corners_at p r.ring in
      let back_in = Contains-permutation (flat_map (old_sides p) C ++ sides_of (without p r.ring)) (map (new_side p) C ++ sides_of r.ring) u
      (IsPermutation-sym (map (new_side p) C ++ sides_of r.ring) (flat_map (old_sides p) C ++ sides_of (without p r.ring)) moved) (Contains-append_right (flat_map (old_sides p) C) (sides_of (without p r.ring)) u has) in
      elim (Contains-append_cases (map (new_side p) C) (sides_of r.ring) u back_in) [
        | inl new ↦
            let c = map-Contains (new_side p) C u new in
            let kept = filter-Contains (λ c. c.at == p) (corners_of r.ring) c.0 c.1 in
            let there : joined.IsThere m valid p s t at r c.0 = record { ring = from.1; there = kept.0; point = eqb-true c.0.at p kept.1 } in
            let before = subst (λ (g : Face). IsBeside g (c.0.before, p) m.boundaries) (sym face) (joined.beside-before m valid p s t at r c.0 there) in
            let behind = subst (λ (g : Face). IsBeside g (p, c.0.after) m.boundaries) (sym face) (joined.beside-after m valid p s t at r c.0 there) in
            elim (joined.leads m valid p s t at r c.0 there) [
              | inl e ↦ forth (sym c.2 ∙ (λ i. (e.0 i, e.1 i))) (subst (λ (q : ℕ). IsBeside f (q, p) m.boundaries) e.0 before) (subst (λ (q : ℕ). IsBeside f (p, q) m.boundaries) e.1 behind)
              | inr e ↦ back (sym c.2 ∙ (λ i. (e.0 i, e.1 i))) (subst (λ (q : ℕ). IsBeside f (q, p) m.boundaries) e.0 before) (subst (λ (q : ℕ). IsBeside f (p, q) m.boundaries) e.1 behind)
            ]
        | inr there ↦ old (record { boundary = r; there = from.1; face = face; has = there })
      ]

  module _ (ends : AreApartEnds) where
    in-all : (f : Face) (u : Side) → IsBeside f u m.boundaries → Contains (all_sides m) u
    in-all f u k = Contains-flat_map (λ b. sides_of b.ring) m.boundaries k.boundary u k.there k.has

    pub apart-join : AreApart rings
    apart-join = record { apart = λ u f g here there. by u f g (came f u here) (came g (opposite u) there) }
      where
        before : AreApart m.boundaries
        before = apart-valid m valid

        turned_back : (u : Side) (x y : ℕ) → opposite u ≡ (x, y) → u ≡ (y, x)
        turned_back u x y e = λ i. ((e i).1, (e i).0)

        by : (u : Side) (f g : Face) → Came f u → Came g (opposite u) → f ≢ g
        by u f g (old k) (old l) = before.apart u f g k l
        by u f g (old k) (forth e l n) = absurd (ends.back (subst (Contains (all_sides m)) (turned_back u a b e) (in-all f u k)))
        by u f g (old k) (back e l n) = absurd (ends.forth (subst (Contains (all_sides m)) (turned_back u b a e) (in-all f u k)))
        by u f g (forth e k n) (old l) = absurd (ends.back (subst (Contains (all_sides m)) (ap opposite e) (in-all g (opposite u) l)))
        by u f g (back e k n) (old l) = absurd (ends.forth (subst (Contains (all_sides m)) (ap opposite e) (in-all g (opposite u) l)))
        by u f g (forth e k n) (forth e' k' n') = absurd (joined.differ m valid p s t at (ap (λ (v : Side). v.0) (sym e ∙ turned_back u a b e')))
        by u f g (forth e k n) (back e' k' n') = before.apart (a, p) f g k n'
        by u f g (back e k n) (forth e' k' n') = before.apart (b, p) f g k n'
        by u f g (back e k n) (back e' k' n') = absurd (joined.differ m valid p s t at (ap (λ (v : Side). v.1) (sym e ∙ turned_back u b a e')))

    -- a ring of three points has the side between the two others
    far-side : (r : Boundary) → (c : Corner) → joined.IsThere m valid p s t at r c → length r.ring ≡ 3 → Contains (sides_of r.ring) (c.after, c.before)
    far-side r c k three =
        let h = from_corner r.ring c k.there in
        let long : length (c.at ∷ c.after ∷ h.rest) ≡ 3 = IsSameRing-length r.ring (c.at ∷ c.after ∷ h.rest) h.same ∙ three in
        Contains-permutation (sides_of (c.at ∷ c.after ∷ h.rest)) (sides_of r.ring) (c.after, c.before)
        (IsPermutation-sym (sides_of r.ring) (sides_of (c.at ∷ c.after ∷ h.rest)) (sides_of-same r.ring (c.at ∷ c.after ∷ h.rest) h.same)) (by h.rest h.points h.is long)
      where
        by : (rest points : List ℕ) → c.after ∷ rest ≡ points ++ c.before ∷ [] → length (c.at ∷ c.after ∷ rest) ≡ 3 → Contains (sides_of (c.at ∷ c.after ∷ rest)) (c.after, c.before)
        by [] points is long = absurd (omega (arith, long))
        by (x ∷ y ∷ rest) points is long = absurd (omega (arith, long))
        by (x ∷ []) [] is long = absurd (let e = ap (λ (l : List ℕ). length l) is in omega (arith, e))
        by (x ∷ []) (q ∷ []) is long =
            let e : x ≡ c.before = cc in
            subst (λ (z : ℕ). Contains (sides_of (c.at ∷ c.after ∷ z ∷ [])) (c.after, c.before)) (sym e)
            (Contains-later (c.at, c.after) ((c.after, c.before) ∷ (c.before, c.at) ∷ []) (c.after, c.before) (Contains-first (c.after, c.before) ((c.before, c.at) ∷ [])))
        by (x ∷ []) (q ∷ w ∷ points) is long = absurd (let e = ap (λ (l : List ℕ). length l) is in let k = length_more points in omega (arith, e, k))
          where
            length_more : (points : List ℕ) → 1 ≤ length (points ++ c.before ∷ [])
            length_more [] = omega arith
            length_more (x ∷ points) = omega arith

    pub three-join : AllByRecursion (λ b. 3 ≤ length b.ring) rings
    three-join = All-map (λ b. 3 ≤ length b.ring) (dropped p) m.boundaries (All-from_each (λ r. 3 ≤ length (without p r.ring)) m.boundaries one)
      where
        one : (r : Boundary) → Contains m.boundaries r → 3 ≤ length (without p r.ring)
        one r there = by (corners_at p r.ring) refl
          where
            long : 3 ≤ length r.ring
            long = All-at_each (λ b. 3 ≤ length b.ring) m.boundaries r valid.sound.v5.three there

            through : times_through p r.ring ≡ length (corners_at p r.ring)
            through = through-corners p r.ring (omega (arith, long))

            whole : length (without p r.ring) + times_through p r.ring ≡ length r.ring
            whole = length-without p r.ring

            few : length (corners_at p r.ring) ≤ 1
            few = All-at_each (λ r. length (corners_at p r.ring) ≤ 1) m.boundaries r (joined.at-most-one m valid p s t at) there

            by : (cs : List Corner) → corners_at p r.ring ≡ cs → 3 ≤ length (without p r.ring)
            by [] is = let e = ap (λ (l : List Corner). length l) is in omega (arith, e, long, through, whole)
            by (c ∷ cs) is = more (nat_eq (length r.ring) 3) refl
              where
                more : (x : Bool) → nat_eq (length r.ring) 3 ≡ x → 3 ≤ length (without p r.ring)
                more false other = let e = differs (length r.ring) 3 other in let f = few in let l = long in let t = through in let w = whole in omega (arith, e, f, l, t, w)
                more true three =
                    let kept = filter-Contains (λ c. c.at == p) (corners_of r.ring) c (subst (λ (l : List Corner). Contains l c) (sym is) (Contains-first c cs)) in
                    let k : joined.IsThere m valid p s t at r c = record { ring = there; there = kept.0; point = eqb-true c.at p kept.1 } in
                    let side = Contains-flat_map (λ b. sides_of b.ring) m.boundaries r (c.after, c.before) there (far-side r c k (eqb-true (length r.ring) 3 three)) in
                    absurd (elim (joined.leads m valid p s t at r c k) [
                      | inl e ↦ ends.back (subst (Contains (all_sides m)) (λ i. (e.1 i, e.0 i)) side)
                      | inr e ↦ ends.forth (subst (Contains (all_sides m)) (λ i. (e.1 i, e.0 i)) side)
                    ])

-- ---- The sources of both

join-known : (P : ℕ → Type 0) (xs ys : List ℕ) → AllByRecursion P xs → AllByRecursion P ys → AllByRecursion P (both_sources xs ys)
join-known P xs ys known too = All-join P xs (filter (λ y. not (list_any (λ x. x == y) xs)) ys) known (All-filter P (λ y. not (list_any (λ x. x == y) xs)) ys too)

-- the sources of both, each once, are sound where they are not too many
sources-of_both : (rows : List SourceRow) (xs ys : List ℕ) → AreSources rows xs → AreSources rows ys → length (both_sources xs ys) ≤ source_limit → AreSources rows (both_sources xs ys)
sources-of_both rows xs ys are also few =
    let others = filter (λ y. not (list_any (λ x. x == y) xs)) ys in
    record {
      known = join-known (λ s. IsTrue (is_some (row_with (λ (r : SourceRow). r.number) s rows))) xs ys are.known also.known;
      distinct = EachPair-join (λ a b. a ≢ b) xs others are.distinct (EachPair-filter (λ a b. a ≢ b) (λ y. not (list_any (λ x. x == y) xs)) ys also.distinct)
          (All-from_each (λ x. AllByRecursion (λ y. x ≢ y) others) xs (λ x in_xs. All-from_each (λ y. x ≢ y) others (λ y in_others. differ-from x y in_xs (filter-Contains (λ y. not (list_any (λ x. x == y) xs)) ys y in_others).1)));
      few = few;
    }
  where
    differ-from : (x y : ℕ) → Contains xs x → not (list_any (λ z. z == y) xs) ≡ true → x ≢ y
    differ-from x y h none same = true≢false (sym (list_any-Contains (λ z. z == y) xs x h (eq-eqb x y same)) ∙ not-true _ none)

-- ---- All of it

-- two strings at a point, the lower-numbered one first
pub record MeetAt (m : Map) (p : ℕ) : Type 0 where
  pub first : StringRow
  pub second : StringRow
  pub are : by_number (strings_at m p) ≡ first ∷ second ∷ []
  pub at : IsPermutation (strings_at m p) (first ∷ second ∷ [])

pub meet-at : (m : Map) (p : ℕ) → degree m p ≡ 2 → MeetAt m p
meet-at m p two = by (strings_at m p) refl two
  where
    by : (rows : List StringRow) → strings_at m p ≡ rows → length rows ≡ 2 → MeetAt m p
    by [] is few = absurd (omega (arith, few))
    by (x ∷ []) is few = absurd (omega (arith, few))
    by (x ∷ y ∷ z ∷ rows) is few = absurd (omega (arith, few))
    by (x ∷ y ∷ []) is few = order (nat_lt y.number x.number) refl
      where
        order : (b : Bool) → nat_lt y.number x.number ≡ b → MeetAt m p
        order true it = record { first = y; second = x; are = ap by_number is ∙ rw it refl; at = rw is (record { moves = (0, 1) ∷ []; below = omega arith; is = refl }) }
        order false it = record { first = x; second = y; are = ap by_number is ∙ rw it refl; at = rw is (IsPermutation-refl (x ∷ y ∷ [])) }

-- a map with two strings joined
pub kept-join : (m : Map) (p new : ℕ) → IsValid m → IsNumber new → IsAllowed m (Join p new) → CanBeTested (join m p new)
kept-join m p new valid number free = subst CanBeTested is (record { v1 = v1; v2 = v2; v5 = v5 })
  where
    degree-two : degree m p ≡ 2
    degree-two = two-joined m p new free.not_degree_two

    two : MeetAt m p
    two = meet-at m p degree-two

    s : StringRow
    s = two.first

    t : StringRow
    t = two.second

    left : List StringRow
    left = filter (λ r. not (is_end r p)) m.strings

    row : StringRow
    row = record { number = new; from = far_end s p; to = far_end t p; sources = both_sources s.sources t.sources }

    rings : List Boundary
    rings = map (dropped p) m.boundaries

    points : List PointRow
    points = without_row (λ (r : PointRow). r.number) p m.points

    with_rings : Map
    with_rings = with_boundaries rings (record m { strings = left })

    after_it : Map
    after_it = with_boundaries rings (record m { points = points; strings = left ++ row ∷ [] })

    is : after_it ≡ join m p new
    is = ap (λ (rows : List StringRow). with_boundaries rings (record m { points = points; strings = left ++ string_joining p new rows })) (sym two.are)

    there-first : Contains m.strings s × (is_end s p ≡ true)
    there-first = joined.at-first m valid p s t two.at

    there-second : Contains m.strings t × (is_end t p ≡ true)
    there-second = joined.at-second m valid p s t two.at

    no_string : AllByRecursion (λ r. (r.from ≢ p) × (r.to ≢ p)) left
    no_string = All-from_each (λ r. (r.from ≢ p) × (r.to ≢ p)) left (λ r h.
        let off = not-true _ (filter-Contains (λ r. not (is_end r p)) m.strings r h).1 in
        let both = or-none (r.from == p) (r.to == p) off in
        (differs r.from p both.0, differs r.to p both.1))

    no_ring : AllByRecursion (λ b. AllByRecursion (λ q. q ≢ p) b.ring) (canonical_order rings)
    no_ring = points-of_ring (λ q. q ≢ p) rings (All-map (λ b. AllByRecursion (λ q. q ≢ p) b.ring) (dropped p) m.boundaries (All-from_each (λ b. AllByRecursion (λ q. q ≢ p) (without p b.ring)) m.boundaries (λ b h.
        All-from_each (λ q. q ≢ p) (without p b.ring) (λ q k. differs q p (not-true _ (filter-Contains (λ q. not (q == p)) b.ring q k).1)))))

    known-far : (r : StringRow) → Contains m.strings r → is_end r p ≡ true → IsTrue (has_point m (far_end r p))
    known-far r there end = far_end-in m r (record { from_in = (ends-of r there).0; to_in = (ends-of r there).1; two = All-at_each (λ (r : StringRow). r.from ≢ r.to) m.strings r valid.sound.v2 there }) p end
      where
        ends-of : (r : StringRow) → Contains m.strings r → IsTrue (has_point m r.from) × IsTrue (has_point m r.to)
        ends-of r there = All-at_each (λ (r : StringRow). IsTrue (has_point m r.from) × IsTrue (has_point m r.to)) m.strings r valid.sound.v1.ends there

    sources-at : (r : StringRow) → Contains m.strings r → AreSources m.sources r.sources
    sources-at r there = All-at_each (λ (r : StringRow). AreSources m.sources r.sources) m.strings r valid.sound.v1.string_sources there

    full : length (both_sources s.sources t.sources) ≤ source_limit
    full = not-more source_limit (length (both_sources s.sources t.sources)) (ap (λ (rows : List StringRow). nat_lt source_limit (length (joined_sources rows))) (sym two.are) ∙ not-when _ _ free.full)
      where
        not-more : (limit n : ℕ) → nat_lt limit n ≡ false → n ≤ limit
        not-more limit n h = grind (arith, nat_tests)

    rows-left : HasSoundRows (record m { strings = left })
    rows-left = kept-strings_left m (λ r. not (is_end r p)) valid.sound.v1

    rows-rings : HasSoundRows with_rings
    rows-rings =
        kept-rings (record m { strings = left }) rings rows-left
        (All-map (λ b. AllByRecursion (λ q. IsTrue (has_point m q)) b.ring) (dropped p) m.boundaries
        (All-follows (λ b. AllByRecursion (λ q. IsTrue (has_point m q)) b.ring) (λ b. AllByRecursion (λ q. IsTrue (has_point m q)) (without p b.ring)) (λ b all. All-filter (λ q. IsTrue (has_point m q)) (λ q. not (q == p)) b.ring all) m.boundaries valid.sound.v1.points_of_rings))
        (All-map (λ b. IsTrue (has_face m b.face)) (dropped p) m.boundaries valid.sound.v1.faces_of_rings)

    rows-point : HasSoundRows (record with_rings { points = points })
    rows-point = kept-without_point with_rings p rows-rings no_string no_ring

    stays : (q : ℕ) → q ≢ p → IsTrue (has_point m q) → IsTrue (has_point (record with_rings { points = points }) q)
    stays q other known = found-without (λ (r : PointRow). r.number) q p m.points other known

    room-left : length left + 1 ≤ string_limit
    room-left =
        let e = filter-both (λ r. is_end r p) m.strings in
        let k : length (strings_at m p) ≡ 2 = degree-two in
        let few = valid.sound.v1.few_strings in
        omega (arith, e, k, few)
      where
        filter-both : (test : StringRow → Bool) (rows : List StringRow) → length (filter test rows) + length (filter (λ r. not (test r)) rows) ≡ length rows
        filter-both test [] = refl
        filter-both test (r ∷ rows) = by (test r) (filter-both test rows)
          where
            by : (b : Bool) → length (filter test rows) + length (filter (λ r. not (test r)) rows) ≡ length rows
                → length (cond b (r ∷ filter test rows) (filter test rows)) + length (cond (not b) (r ∷ filter (λ r. not (test r)) rows) (filter (λ r. not (test r)) rows)) ≡ length (r ∷ rows)
            by true rest = omega (arith, rest)
            by false rest = omega (arith, rest)

    v1 : HasSoundRows after_it
    v1 = kept-string (record with_rings { points = points }) row rows-point number
        (none-filter (λ (r : StringRow). r.number) (λ r. not (is_end r p)) new m.strings (free-join m p new free.taken)) (
          stays (far_end s p) (joined.away m valid p s t two.at s there-first.0 there-first.1) (known-far s there-first.0 there-first.1),
          stays (far_end t p) (joined.away m valid p s t two.at t there-second.0 there-second.1) (known-far t there-second.0 there-second.1),
        )
        (sources-of_both m.sources s.sources t.sources (sources-at s there-first.0) (sources-at t there-second.0) full)
        room-left

    v2 : HasTwoEnds after_it
    v2 = All-push (λ (r : StringRow). r.from ≢ r.to) left row (All-filter (λ (r : StringRow). r.from ≢ r.to) (λ r. not (is_end r p)) m.strings valid.sound.v2) (joined.differ m valid p s t two.at)

    sides-after : string_sides after_it ≡ flat_map both left ++ (far_end s p, far_end t p) ∷ (far_end t p, far_end s p) ∷ []
    sides-after = flat_map-append both left (row ∷ [])

    v5 : Keeps after_it V3 → Keeps after_it V4 → HasCompleteRings after_it
    v5 v3 v4 =
        let pairs = subst (EachPair (λ a b. a ≢ b)) sides-after (string_sides-once after_it (record { v1 = v1; v2 = v2; v3 = v3 }) v4) in
        let ends = ends-apart m valid p s t two.at pairs in
        complete (record m { points = points; strings = left ++ row ∷ [] }) rings (three-join m valid p s t two.at ends)
        (subst (λ (l : List Side). IsPermutation l (sides_in rings)) (sym sides-after)
        (permuted-from_times (flat_map both left ++ (far_end s p, far_end t p) ∷ (far_end t p, far_end s p) ∷ []) (sides_in rings) (λ u.
        times-append u (flat_map both left) ((far_end s p, far_end t p) ∷ (far_end t p, far_end s p) ∷ []) ∙ sym (joined.once-join m valid p s t two.at u))))
        (apart-join m valid p s t two.at ends)
