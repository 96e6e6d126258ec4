-- The corners that may be chosen after some sides, and the first of them.
use Rattle.std.proofs.Common.{◌≡◌, ℕ, ◌≤◌, ◌⊎◌, inl, inr, refl, sym, ap, subst, ◌∙◌, List, [], ◌∷◌, ◌++◌, length, map, filter, find, Option, Some, None, Bool, true, false, true≢false, arith}
use Rattle.std.specs.Prelude.{◌==◌, ◌&&◌, nat_le, count_by, IsTrue, IsPermutation}
use Rattle.std.specs.List.{AllByRecursion, Contains, list_all}
use Rattle.std.proofs.lemmas.Bool.{eqb-true, and_parts}
use Rattle.std.proofs.lemmas.Bool.Decides.{nat_tests}
use Rattle.std.proofs.lemmas.Cmp.{nat_eq_equiv}
use Rattle.std.proofs.lemmas.Option.{same_Some}
use Rattle.std.proofs.lemmas.List.{map-append}
use Rattle.std.proofs.lemmas.List.Elements.{Contains-append_cases, Contains-append_left, Contains-append_right}
use Rattle.std.proofs.lemmas.List.Sorted.{IsPermutation-sym, Contains-permutation}
use Rattle.cad_rows.specs.declared.names.Face.{Face}
use Rattle.cad_rows.specs.declared.rows.StringRow.{StringRow}
use Rattle.cad_rings.specs.Cycle.{Ring, Side, is_side, sides_of, opposite, Corner, corners_of}
use Rattle.cad_rings.specs.Surgery.{corner}
use Rattle.cad_map.specs.declared.boundary.Boundary.{Boundary}
use Rattle.cad_map.specs.Boundaries.{is_face, sides_in, corners_in}
use Rattle.cad_map.specs.Map.{Map, has_point, is_end, far_end, side_of, strings_at, string_sides, rings_of, face_sides, face_corners, all_sides, all_corners}
use Rattle.cad_map.specs.Chain.{has_in_sector, first_by_after, chosen_corner}
use Rattle.cad_map.specs.Choice.{MayBeChosen, IsFirst}
use Rattle.cad_map.specs.Rings.{HasWholeRings}
use Rattle.cad_map.specs.Views.{HasSide, IsNoSide}
use Rattle.cad_map.proofs.Lists.EachElement.{All-follows}
use Rattle.cad_map.proofs.Lists.Elements.{Contains-cases, Contains-first, Contains-map, Contains-flat_map, Contains-in_part, All-at_each, count-map, one-only}
use Rattle.cad_map.proofs.Lists.ElementFacts.{Contains-filter, filter-Contains, list_all-at, list_all-from, find-Contains, map-Contains}
use Rattle.cad_map.proofs.Walks.Counted.{times, times-append, times-cons}
use Rattle.cad_map.proofs.Walks.AlongRing.{side_before, side_behind, sides-before, sides-behind, is_side-refl, HaveDistinctSides, once-from_pairs, corner-only}
use Rattle.cad_map.proofs.Boundaries.FacesBeside.{has_side-Contains, Contains-has_side, beside, one_face, string_side}
use Rattle.cad_map.proofs.Boundaries.Looks.{is_face-refl}
use Rattle.cad_map.proofs.Ends.Meetings.{ends as ends_of, is_end-of}
use Rattle.cad_map.proofs.Walks.ChosenCorners.{face-ring}
use Rattle.cad_map.proofs.Boundaries.RingsOfMap.{string-side-points}
use Rattle.cad_map.proofs.Edits.JoinedRings.{first-there, corner-sides}

-- where nothing is found, each element fails
nothing-found : {X : Type 0} (test : X → Bool) (xs : List X) (x : X) → find test xs ≡ None → Contains xs x → test x ≡ false
nothing-found test [] x none h = let low = h.1 in absurd (omega arith)
nothing-found test (y ∷ ys) x none h = by (test y) refl (Contains-cases y ys x h) (λ rest later. nothing-found test ys x rest later)
  where
    by : (b : Bool) → test y ≡ b → (y ≡ x) ⊎ Contains ys x → (find test ys ≡ None → Contains ys x → test x ≡ false) → test x ≡ false
    by true is where_it again = let e : Some y ≡ None = rw is at none in cc
    by false is (inl same) again = ap test (sym same) ∙ is
    by false is (inr later) again = again (rw is at none) later

-- ---- The first of those that are asked for

module _ (P : Corner → Type 0) where
  -- where one is asked for there is a first one, and it comes no later
  found : (o : Option Corner) → IsFirst P o → (c : Corner) → P c → (d : Corner) × (o ≡ Some d) × (d.after ≤ c.after)
  found None first c p = absurd (first c p)
  found (Some d) first c p = (d, refl, first.1 c p)

  picked : (o : Option Corner) → IsFirst P o → (c : Corner) → o ≡ Some c → P c
  picked None first c is = cc
  picked (Some d) first c is = let same : d ≡ c = cc in subst P same first.0

  -- it is the one that `first_by_after` finds in a list with these, of which no two have the same following point
  pub first-found : (cs : List Corner) → ((c : Corner) → P c → Contains cs c) → ((c : Corner) → Contains cs c → P c) → ((c d : Corner) → P c → P d → c.after ≡ d.after → c ≡ d)
      → (o : Option Corner) → IsFirst P o → first_by_after cs ≡ o
  first-found [] there from apart None first = refl
  first-found (x ∷ cs) there from apart None first = absurd (first x (from x (Contains-first x cs)))
  first-found cs there from apart (Some c) first = by (first_by_after cs) refl
    where
      least : Corner → Bool
      least c = list_all (λ d. nat_le c.after d.after) cs

      passes : least c ≡ true
      passes = list_all-from (λ d. nat_le c.after d.after) cs (λ d h. let low = first.1 d (from d h) in grind (arith, nat_tests, low))

      by : (o : Option Corner) → first_by_after cs ≡ o → o ≡ Some c
      by None none = absurd (true≢false (sym passes ∙ nothing-found least cs c none (there c first.0)))
      by (Some d) some =
          let has = find-Contains least cs d some in
          let low = first.1 d (from d has.0) in
          let e : nat_le d.after c.after ≡ true = list_all-at (λ e. nat_le d.after e.after) cs c has.1 (there c first.0) in
          let same : d.after ≡ c.after = grind (arith, nat_tests, low, e) in
          ap Some (apart d c (from d has.0) first.0 same)

-- the first of two kinds, where the first of each is known
pub first-of_two : (P Q R : Corner → Type 0) (a b o : Option Corner) → IsFirst P a → IsFirst Q b → IsFirst (λ c. (a ≡ Some c) ⊎ (b ≡ Some c)) o
    → ((c : Corner) → R c → P c ⊎ Q c) → ((c : Corner) → P c → R c) → ((c : Corner) → Q c → R c) → IsFirst R o
first-of_two P Q R a b None of_a of_b none part one other = λ c r. elim (part c r) [
  | inl p ↦ let k = found P a of_a c p in none k.0 (inl k.1)
  | inr q ↦ let k = found Q b of_b c q in none k.0 (inr k.1)
]
first-of_two P Q R a b (Some c) of_a of_b first part one other = (
  elim first.0 [ inl is ↦ one c (picked P a of_a c is) | inr is ↦ other c (picked Q b of_b c is) ],
  λ d r. elim (part d r) [
    | inl p ↦ let k = found P a of_a d p in let low = first.1 k.0 (inl k.1) in let more = k.2 in omega (arith, low, more)
    | inr q ↦ let k = found Q b of_b d q in let low = first.1 k.0 (inr k.1) in let more = k.2 in omega (arith, low, more)
  ],
)

-- ---- String by string

module _ (m : Map) (face : Face) (at w : ℕ) where
  pub first-none : IsFirst (MayBeChosen m face at w []) None
  first-none = λ c k. let low = k.comes_from.1 in absurd (omega arith)

  among : (xs ys : List ℕ) → ((p : ℕ) → Contains xs p → Contains ys p) → (c : Corner) → MayBeChosen m face at w xs c → MayBeChosen m face at w ys c
  among xs ys more c k = record { there = k.there; comes_from = more c.before k.comes_from; stands = k.stands; has = k.has }

  -- the first after sides from some points and from some more
  pub first-more : (xs ys : List ℕ) (a b o : Option Corner) → IsFirst (MayBeChosen m face at w xs) a → IsFirst (MayBeChosen m face at w ys) b
      → IsFirst (λ c. (a ≡ Some c) ⊎ (b ≡ Some c)) o → IsFirst (MayBeChosen m face at w (xs ++ ys)) o
  first-more xs ys a b o of_a of_b first =
      first-of_two (MayBeChosen m face at w xs) (MayBeChosen m face at w ys) (MayBeChosen m face at w (xs ++ ys)) a b o of_a of_b first
      (λ c k. elim (Contains-append_cases xs ys c.before k.comes_from) [
        | inl h ↦ inl (record { there = k.there; comes_from = h; stands = k.stands; has = k.has })
        | inr h ↦ inr (record { there = k.there; comes_from = h; stands = k.stands; has = k.has })
      ])
      (among xs (xs ++ ys) (λ p h. Contains-append_left xs ys p h))
      (among ys (xs ++ ys) (λ p h. Contains-append_right xs ys p h))

  -- the side that one comes after, where it comes from one point
  side_from_one : (p : ℕ) (c : Corner) → MayBeChosen m face at w (p ∷ []) c → (p, at) ≡ side_before c
  side_from_one p c k = elim (Contains-cases p [] c.before k.comes_from) [
    | inl same ↦ λ i. (same i, sym k.stands i)
    | inr none ↦ let low = none.1 in absurd (omega arith)
  ]

-- ---- The corners of whole rings

module _ (m : Map) (whole : HasWholeRings m) where
  pub two-each : AllByRecursion (λ b. 2 ≤ length b.ring) m.boundaries
  two-each = All-follows (λ b. 3 ≤ length b.ring) (λ b. 2 ≤ length b.ring) (λ b h. omega (arith, h)) m.boundaries whole.v5.three

  pub distinct-whole : HaveDistinctSides m.boundaries
  distinct-whole = record { two = two-each; once = once-from_pairs (all_sides m) whole.once }

  in_ring : (c : Corner) → Contains (all_corners m) c → (b : Boundary) × Contains m.boundaries b × Contains (corners_of b.ring) c
  in_ring c h = Contains-in_part (λ b. corners_of b.ring) m.boundaries c h

  pub corner-all_sides : (c : Corner) → Contains (all_corners m) c → Contains (all_sides m) (side_before c) × Contains (all_sides m) (side_behind c)
  corner-all_sides c h =
      let ring = in_ring c h in
      let sides = corner-sides ring.0.ring (All-at_each (λ b. 2 ≤ length b.ring) m.boundaries ring.0 two-each ring.1) c ring.2 in
      (Contains-flat_map (λ b. sides_of b.ring) m.boundaries ring.0 (side_before c) ring.1 sides.0, Contains-flat_map (λ b. sides_of b.ring) m.boundaries ring.0 (side_behind c) ring.1 sides.1)

  -- the points of a corner are points of the map
  pub corner-points : (c : Corner) → Contains (all_corners m) c → IsTrue (has_point m c.before) × IsTrue (has_point m c.at) × IsTrue (has_point m c.after)
  corner-points c h =
      let sides = corner-all_sides c h in
      let front = string-side-points m whole (side_before c) sides.0 in
      let back = string-side-points m whole (side_behind c) sides.1 in
      (front.0, front.1, back.1)

  -- each side is behind one corner alone
  behind-once : (s : Side) → count_by (λ c. is_side s (side_behind c)) (all_corners m) ≤ 1
  behind-once s =
      let e = count-map side_behind (is_side s) (all_corners m) in
      let k = same-behind m.boundaries two-each in
      let few = distinct-whole.once s in
      omega (arith, e, k, few)
    where
      same-behind : (bs : List Boundary) → AllByRecursion (λ b. 2 ≤ length b.ring) bs → times s (map side_behind (corners_in bs)) ≡ times s (sides_in bs)
      same-behind [] all = refl
      same-behind (b ∷ bs) all =
          let first = first-there b.ring all.0 in
          let ring = ap (times s) (sides-behind b.ring first.0 all.0 first.1) in
          let one = times-cons s first.0 (map side_behind (corners_of b.ring)) in
          let other = times-append s (sides_of b.ring) (first.0 ∷ []) in
          let last = times-cons s first.0 [] in
          let rest = same-behind bs all.1 in
          let parts = ap (times s) (map-append side_behind (corners_of b.ring) (corners_in bs)) ∙ times-append s (map side_behind (corners_of b.ring)) (map side_behind (corners_in bs)) in
          let sides = times-append s (sides_of b.ring) (sides_in bs) in
          omega (arith, ring, one, other, last, rest, parts, sides)

  pub behind-only : (c d : Corner) → Contains (all_corners m) c → Contains (all_corners m) d → side_behind c ≡ side_behind d → c ≡ d
  behind-only c d h k same =
      let s = side_behind c in
      one-only (λ e. is_side s (side_behind e)) (all_corners m) c d (behind-once s) h k (is_side-refl s) (ap (is_side s) (sym same) ∙ is_side-refl s)

  -- ---- The corners of a face

  module _ (face : Face) where
    -- a corner after a side of the face is one of the face's
    of_face : (c : Corner) → Contains (all_corners m) c → Contains (face_sides m face) (side_before c) → Contains (face_corners m face) c
    of_face c there before =
        let ring = Contains-in_part sides_of (rings_of m face) (side_before c) before in
        let b = face-ring m face ring.0 ring.1 in
        let long : 2 ≤ length ring.0 = subst (λ (r : Ring). 2 ≤ length r) b.3 (All-at_each (λ b. 2 ≤ length b.ring) m.boundaries b.0 two-each b.1) in
        let d = map-Contains side_before (corners_of ring.0) (side_before c) (subst (λ (l : List Side). Contains l (side_before c)) (sym (sides-before ring.0 long)) ring.2) in
        let too = Contains-flat_map (λ b. corners_of b.ring) m.boundaries b.0 d.0 b.1 (subst (λ (r : Ring). Contains (corners_of r) d.0) (sym b.3) d.1) in
        subst (Contains (face_corners m face)) (corner-only m.boundaries distinct-whole d.0 c too there d.2) (Contains-flat_map corners_of (rings_of m face) ring.0 d.0 ring.1 d.1)

    on_face : (c : Corner) → Contains (face_corners m face) c → Contains (all_corners m) c × Contains (face_sides m face) (side_before c)
    on_face c h =
        let ring = Contains-in_part corners_of (rings_of m face) c h in
        let b = face-ring m face ring.0 ring.1 in
        let long : 2 ≤ length ring.0 = subst (λ (r : Ring). 2 ≤ length r) b.3 (All-at_each (λ b. 2 ≤ length b.ring) m.boundaries b.0 two-each b.1) in
        let sides = corner-sides ring.0 long c ring.2 in (
          Contains-flat_map (λ b. corners_of b.ring) m.boundaries b.0 c b.1 (subst (λ (r : Ring). Contains (corners_of r) c) (sym b.3) ring.2),
          Contains-flat_map sides_of (rings_of m face) ring.0 (side_before c) ring.1 sides.0,
        )

    -- no two faces have one side
    only_face : (f : Face) (s : Side) → Contains (face_sides m face) s → Contains (face_sides m f) s → face ≡ f
    only_face f s here there =
        let one = beside face s m.boundaries here in
        let two = beside f s m.boundaries there in
        let once = once-from_pairs (all_sides m) whole.once s in
        one.face ∙ same_Some one.boundary.face two.boundary.face
        (sym (one_face s m.boundaries one.boundary once one.there one.has) ∙ one_face s m.boundaries two.boundary once two.there two.has) ∙ sym two.face

    module _ (at w : ℕ) where
      -- after a side of no ring, and after one of another face, there is none
      pub first-no_side : (p : ℕ) → IsNoSide m (p, at) → IsFirst (MayBeChosen m face at w (p ∷ [])) None
      first-no_side p none = λ c k.
          let has = (corner-all_sides c (on_face c k.there).0).0 in
          true≢false (sym (Contains-has_side (p, at) (all_sides m) (subst (Contains (all_sides m)) (sym (side_from_one m face at w p c k)) has)) ∙ none)

      pub first-other_face : (p : ℕ) (f : Face) → HasSide m f (p, at) → is_face face f ≡ false → IsFirst (MayBeChosen m face at w (p ∷ [])) None
      first-other_face p f has other = λ c k.
          let here = subst (Contains (face_sides m face)) (sym (side_from_one m face at w p c k)) (on_face c k.there).1 in
          let same = only_face f (p, at) here (has_side-Contains (p, at) (face_sides m f) has) in
          true≢false (sym (is_face-refl face) ∙ ap (is_face face) same ∙ other)

      -- the corner after a side is the only one
      only : (p n : ℕ) → Contains (all_corners m) (corner p at n) → (c : Corner) → MayBeChosen m face at w (p ∷ []) c → corner p at n ≡ c
      only p n there c k = corner-only m.boundaries distinct-whole (corner p at n) c there (on_face c k.there).0 (side_from_one m face at w p c k)

      pub first-one : (p n : ℕ) → HasSide m face (p, at) → Contains (all_corners m) (corner p at n) → has_in_sector m (corner p at n) w ≡ true
          → IsFirst (MayBeChosen m face at w (p ∷ [])) (Some (corner p at n))
      first-one p n side there has = (
        record { there = of_face (corner p at n) there (has_side-Contains (p, at) (face_sides m face) side); comes_from = Contains-first p []; stands = refl; has = has },
        λ d k. let same = ap (λ (c : Corner). c.after) (only p n there d k) in omega (arith, same),
      )

      pub first-other_way : (p n : ℕ) → Contains (all_corners m) (corner p at n) → has_in_sector m (corner p at n) w ≡ false → IsFirst (MayBeChosen m face at w (p ∷ [])) None
      first-other_way p n there missed = λ c k. true≢false (sym k.has ∙ ap (λ (c : Corner). has_in_sector m c w) (sym (only p n there c k)) ∙ missed)

      -- The first of those along the strings of the point, in whatever order they are told, is the face's chosen corner.
      module _ (strings : List StringRow) (each : IsPermutation (strings_at m at) strings) where
        abbrev asked : Corner → Bool
        asked c = (c.at == at) && has_in_sector m c w

        abbrev ends : List ℕ
        ends = map (λ s. far_end s at) strings

        -- a side into the point comes along one of its strings
        comes_along : (p : ℕ) → Contains (all_sides m) (p, at) → Contains ends p
        comes_along p h =
            let t = string_side m (p, at) (Contains-permutation (all_sides m) (string_sides m) (p, at) (IsPermutation-sym (string_sides m) (all_sides m) whole.v5.once) h) in
            let two = led t.string t.is in
            let told = Contains-permutation (strings_at m at) strings t.string each (Contains-filter (λ s. is_end s at) m.strings t.string t.there two.0) in
            subst (Contains ends) two.1 (Contains-map (λ s. far_end s at) strings t.string told)
          where
            led : (t : StringRow) → ((p, at) ≡ side_of t) ⊎ ((p, at) ≡ opposite (side_of t)) → (is_end t at ≡ true) × (far_end t at ≡ p)
            led t (inl is) =
                let end = is_end-of t at (inr (ap (λ (s : Side). s.1) (sym is))) in (
                  end,
                  elim (ends_of t at end) [
                    | inl e ↦ sym e.1 ∙ ap (λ (s : Side). s.1) (sym is) ∙ sym e.0 ∙ ap (λ (s : Side). s.0) (sym is)
                    | inr e ↦ sym e.1 ∙ ap (λ (s : Side). s.0) (sym is)
                  ],
                )
            led t (inr is) =
                let end = is_end-of t at (inl (ap (λ (s : Side). s.1) (sym is))) in (
                  end,
                  elim (ends_of t at end) [
                    | inl e ↦ sym e.1 ∙ ap (λ (s : Side). s.0) (sym is)
                    | inr e ↦ sym e.1 ∙ ap (λ (s : Side). s.1) (sym is) ∙ sym e.0 ∙ ap (λ (s : Side). s.0) (sym is)
                  ],
                )

        pub first-chosen : (o : Option Corner) → IsFirst (MayBeChosen m face at w ends) o → chosen_corner m face at w ≡ o
        first-chosen o first = first-found (MayBeChosen m face at w ends) (filter asked (face_corners m face)) there from apart o first
          where
            there : (c : Corner) → MayBeChosen m face at w ends c → Contains (filter asked (face_corners m face)) c
            there c k =
                let test : asked c ≡ true = (λ i. (k.stands i == at) && k.has i) ∙ ap (λ (b : Bool). b && true) (nat_eq_equiv.refl at) in
                Contains-filter asked (face_corners m face) c k.there test

            from : (c : Corner) → Contains (filter asked (face_corners m face)) c → MayBeChosen m face at w ends c
            from c h =
                let found = filter-Contains asked (face_corners m face) c h in
                let both = and_parts (c.at == at) (has_in_sector m c w) found.1 in
                let stands = eqb-true c.at at both.0 in
                let side = (corner-all_sides c (on_face c found.0).0).0 in
                record {
                  there = found.0;
                  comes_from = comes_along c.before (subst (λ (p : ℕ). Contains (all_sides m) (c.before, p)) stands side);
                  stands = stands;
                  has = both.1;
                }

            apart : (c d : Corner) → MayBeChosen m face at w ends c → MayBeChosen m face at w ends d → c.after ≡ d.after → c ≡ d
            apart c d h k same = behind-only c d (on_face c h.there).0 (on_face d k.there).0 (λ i. ((h.stands ∙ sym k.stands) i, same i))
