-- No side stands twice in the rings of the map after an edit.
use Rattle.std.proofs.Common.{◌≡◌, ◌≢◌, ℕ, ◌+◌, inl, inr, refl, sym, ap, subst, ◌∙◌, List, [], ◌∷◌, ◌++◌, length, map, filter, Bool, true, false, true≢false, not, ◌==◌, Option, Some, None, is_some, ℤ, arith}
use Rattle.std.specs.Prelude.{IsTrue, IsPermutation, flat_map, unwrap_or, option_map}
use Rattle.std.specs.List.{AllByRecursion, Contains, list_all}
use Rattle.std.proofs.lemmas.Bool.{and_parts, and_from}
use Rattle.std.proofs.lemmas.Grind.{flat_map-append}
use Rattle.std.proofs.lemmas.List.Sorted.{IsPermutation-sym, Contains-permutation}
use Rattle.cad_rows.specs.declared.edits.Edit.{Edit}
use Rattle.cad_rows.specs.declared.edits.Edit.TheVariants.{AddSource, AddPoint, DropPoint, Split, Join, Divide, Merge, Move, Attach, Detach, Rename, Enclose}
use Rattle.cad_rows.specs.declared.names.Face.{Face}
use Rattle.cad_rows.specs.declared.names.Face.TheVariants.{Parcel}
use Rattle.cad_rows.specs.declared.names.Item.{Item}
use Rattle.cad_rows.specs.declared.names.Item.TheVariants as item
use Rattle.cad_rows.specs.declared.names.Name.TheVariants as name
use Rattle.cad_rows.specs.declared.refusals.Rule.TheVariants.{V3, V4}
use Rattle.cad_rows.specs.declared.rows.PointRow.{PointRow}
use Rattle.cad_rows.specs.declared.rows.StringRow.{StringRow}
use Rattle.cad_rows.specs.Limits.{row_limit, IsNumber}
use Rattle.cad_rings.specs.Cycle.{Side, is_side, opposite, sides_of, sides_along}
use Rattle.cad_rings.specs.Surgery.{both_ways, sides_of_chain}
use Rattle.cad_rings.proofs.CallerLemmas.{both_ways-apart, sides_of_chain-is}
use Rattle.cad_map.specs.declared.boundary.Boundary.{Boundary}
use Rattle.cad_map.specs.Boundaries.{sides_in}
use Rattle.cad_map.specs.Map.{Map, point_of, string_of, has_point, side_of, is_end, far_end, string_sides, all_sides}
use Rattle.numbered_rows.specs.Rows.{without_row}
use Rattle.cad_map.specs.Chain.{strings_along}
use Rattle.cad_map.specs.Merger.{is_shared}
use Rattle.cad_map.specs.Changes.{both_sources, string_joining, split, join, divide, enclose, merge, with_boundaries, change_sources}
use Rattle.cad_map.specs.Effects.{after}
use Rattle.cad_map.specs.Refusals.{first_refusal}
use Rattle.cad_map.specs.Asked.{GivesInRange}
use Rattle.cad_map.specs.Rings.{HasWholeRings}
use Rattle.cad_map.specs.Valid.{EachPair, HasCompleteRings, IsSound, IsValid, FirstBroken, Keeps, each_pair, is_same_position}
use Rattle.cad_map.proofs.CallerLemmas.{EachPair-join, IsAllowed, allowed, not-when, there-one, free-point, free-split, free-dropped, position-in_range, room, two-joined, can-divide, can-enclose, can-merge, HasNoOpposites, in_parts, pairs-from_distinct, no_opposites-along, sides-from_ends, sides-strings_along, times-append, permuted-from_times, CanDivide, divided-sound, Contains-cases, Contains-map, Contains-flat_map, Contains-in_part, All-at_each, All-from_each, filter-Contains, map-Contains, list_all-at, list_all-from, find-Contains, CanEnclose, enclosed-sound, is_division-enclosed, complete, sides-once, in_all, string_side, dropped, both, AreApartEnds, MeetAt, meet-at, kept-join, three-join, apart-join, ends-apart, kept-source, kept-point, kept-drop, kept-move, kept-attach, kept-detach, kept-rename, kept-split, merged-sound, pairs-IsPermutation, is_side-is, string_sides-once, EachPair-append}
use Rattle.cad_map.proofs.CallerLemmas as maps
use Rattle.cad_laws.specs.Joining.{AreNotJoined, FarEndsAreApart}
use Rattle.cad_laws.proofs.NamedParcels.{of-parcels}

-- ---- Sides of which none stands twice

abbrev Once : List Side → Type 0
Once sides = EachPair (λ a b. a ≢ b) sides

abbrev sides_from : List StringRow → List Side
sides_from strings = flat_map both strings

-- of some of the strings
part-once : (test : StringRow → Bool) (strings : List StringRow) → Once (sides_from strings)
    → Once (sides_from (filter test strings))
part-once test [] once = tt
part-once test (r ∷ strings) once =
    by (test r) refl (EachPair-append (λ (a b : Side). a ≢ b) (both r) (sides_from strings) once)
    (λ k. part-once test strings k)
  where
    left : List StringRow
    left = filter test strings

    within : (s : Side) → Contains (sides_from left) s → Contains (sides_from strings) s
    within s h = let part =
        Contains-in_part both left s h in
        Contains-flat_map both strings part.0 s
        (filter-Contains test strings part.0 part.1).0 part.2

    by : (b : Bool) → test r ≡ b → Once (both r) × Once (sides_from strings)
        × AllByRecursion (λ x. AllByRecursion (λ y. x ≢ y) (sides_from strings)) (both r)
        → (Once (sides_from strings) → Once (sides_from left))
        → Once (sides_from (filter test (r ∷ strings)))
    by true is parts again =
        rw is (EachPair-join (λ (a b : Side). a ≢ b) (both r) (sides_from left) parts.0
        (again parts.1)
        (All-from_each (λ x. AllByRecursion (λ y. x ≢ y) (sides_from left)) (both r)
        (λ x hx. All-from_each (λ y. x ≢ y) (sides_from left)
        (λ y hy.
        All-at_each (λ y. x ≢ y) (sides_from strings) y
        (All-at_each (λ x. AllByRecursion (λ y. x ≢ y) (sides_from strings))
        (both r) x parts.2 hx) (within y hy)))))
    by false is parts again = rw is (again parts.1)

-- and of more of them
more-once : (xs ys : List Side) → Once xs → Once ys
    → ((s : Side) → Contains xs s → Contains ys s → ⊥) → Once (xs ++ ys)
more-once xs ys one two apart =
    EachPair-join (λ (a b : Side). a ≢ b) xs ys one two
    (All-from_each (λ x. AllByRecursion (λ y. x ≢ y) ys) xs
    (λ x hx.
    All-from_each (λ y. x ≢ y) ys (λ y hy same.
    apart x hx (subst (Contains ys) (sym same) hy))))

mapped-once : {X Y : Type 0} (f : X → Y) (xs : List X) → EachPair (λ a b. a ≢ b) (map f xs)
    → EachPair (λ a b. a ≢ b) xs
mapped-once f [] each = tt
mapped-once f (x ∷ xs) each = (
  All-from_each (λ y. x ≢ y) xs (λ y h same.
      All-at_each (λ z. f x ≢ z) (map f xs) (f y) each.0 (Contains-map f xs y h) (ap f same)),
  mapped-once f xs each.1,
)

-- where no two points are one, no two sides are
starts : (a : ℕ) (xs : List ℕ) (z : ℕ) → map (λ (s : Side). s.0) (sides_along a xs z) ≡ a ∷ xs
starts a [] z = refl
starts a (x ∷ xs) z = ap (λ (l : List ℕ). a ∷ l) (starts x xs z)

along-once : (a : ℕ) (xs : List ℕ) (z : ℕ) → EachPair (λ p q. p ≢ q) (a ∷ xs)
    → Once (sides_along a xs z)
along-once a xs z each =
    mapped-once (λ (s : Side). s.0) (sides_along a xs z)
    (subst (EachPair (λ p q. p ≢ q)) (sym (starts a xs z)) each)

back-once : (xs : List Side) → Once xs → Once (map opposite xs)
back-once xs once = mapped-once opposite (map opposite xs) (subst Once (sym (twice xs)) once)
  where
    twice : (xs : List Side) → map opposite (map opposite xs) ≡ xs
    twice [] = refl
    twice (x ∷ xs) = ap (λ (l : List Side). x ∷ l) (twice xs)

both-once : (xs : List Side) → Once xs → HasNoOpposites xs → Once (both_ways xs)
both-once xs once none =
    pairs-IsPermutation is_side is_side-is (xs ++ map opposite xs) (both_ways xs)
    (IsPermutation-sym (both_ways xs) (xs ++ map opposite xs) (both_ways-apart xs))
    (more-once xs (map opposite xs) once (back-once xs once)
    (λ s h k. let t =
    map-Contains opposite xs s k in none.none s h (subst (Contains xs) (ap opposite t.2) t.1)))

pairs-front : (xs ys : List ℕ) → EachPair (λ p q. p ≢ q) (xs ++ ys) → EachPair (λ p q. p ≢ q) xs
pairs-front xs ys each = (EachPair-append (λ (p q : ℕ). p ≢ q) xs ys each).0

-- ---- The sides of a sound map's rings are those of its strings

whole-sound : (m : Map) → IsSound m → Once (string_sides m) → HasWholeRings m
whole-sound m sound once =
    record {
      v1 = sound.v1;
      v5 = sound.v5;
      once =
          pairs-IsPermutation is_side is_side-is (string_sides m) (all_sides m) sound.v5.once once;
    }

-- a map whose rings are these of a valid one
same-rings : (m new : Map) → IsValid m → IsSound new → new.boundaries ≡ m.boundaries
    → HasWholeRings new
same-rings m new valid sound is =
    record {
      v1 = sound.v1;
      v5 = sound.v5;
      once =
          subst (λ (bs : List Boundary). Once (sides_in bs)) (sym is) (sides-once m valid);
    }

module _ (m : Map) (valid : IsValid m) where
  old-once : Once (string_sides m)
  old-once =
      pairs-IsPermutation is_side is_side-is (all_sides m) (string_sides m)
      (IsPermutation-sym (string_sides m) (all_sides m) valid.sound.v5.once) (sides-once m valid)

  -- strings that are added, none of whose sides was there
  grown-once : (test : StringRow → Bool) (rows : List StringRow) → Once (sides_from rows)
      → ((s : Side) → Contains (sides_from (filter test m.strings)) s
      → Contains (sides_from rows) s → ⊥) → Once (sides_from (filter test m.strings ++ rows))
  grown-once test rows once apart =
      subst Once (sym (flat_map-append both (filter test m.strings) rows))
      (more-once (sides_from (filter test m.strings)) (sides_from rows)
      (part-once test m.strings old-once) once apart)

  was-there : (test : StringRow → Bool) (s : Side)
      → Contains (sides_from (filter test m.strings)) s → Contains (all_sides m) s
  was-there test s h =
      let part = Contains-in_part both (filter test m.strings) s h in
      in_all m valid s
      (Contains-flat_map both m.strings part.0 s
      (filter-Contains test m.strings part.0 part.1).0 part.2)

  added-once : (rows : List StringRow) → Once (sides_from rows)
      → ((s : Side) → Contains (all_sides m) s → Contains (sides_from rows) s → ⊥)
      → Once (sides_from (m.strings ++ rows))
  added-once rows once apart =
      subst Once (sym (flat_map-append both m.strings rows))
      (more-once (string_sides m) (sides_from rows) old-once once
      (λ s h k. apart s (in_all m valid s h) k))

  -- ---- A chain

  chain-once : (rows : List StringRow) (chain : List Side) → map side_of rows ≡ chain → Once chain
      → HasNoOpposites chain
      → ((s : Side) → Contains chain s → Contains (all_sides m) s → ⊥)
      → ((s : Side) → Contains chain s → Contains (all_sides m) (opposite s) → ⊥)
      → Once (sides_from (m.strings ++ rows))
  chain-once rows chain along once none new new_back =
      let is : sides_from rows ≡ both_ways chain = sides-from_ends rows ∙ ap both_ways along in
      added-once rows (subst Once (sym is) (both-once chain once none)) (λ s h k.
      let part =
      Contains-in_part (λ (t : Side). t ∷ opposite t ∷ []) chain s
      (subst (λ (l : List Side). Contains l s) is k) in
      elim (Contains-cases part.0 (opposite part.0 ∷ []) s part.2) [
        | inl e ↦ new part.0 part.1 (subst (Contains (all_sides m)) (sym e) h)
        | inr l ↦ elim (Contains-cases (opposite part.0) [] s l) [
          | inl e ↦ new_back part.0 part.1 (subst (Contains (all_sides m)) (sym e) h)
          | inr none ↦ let low = none.1 in omega arith
        ]
      ])

  whole-divide : (face : Face) (chain strings : List ℕ) (parcel : ℕ) (label : List ℕ) (source : ℕ)
      → CanDivide m face chain strings parcel label source
      → HasWholeRings (divide m face chain strings parcel label source)
  whole-divide face chain strings parcel label source can =
      let parts = in_parts chain can.long in
      let each =
      subst (EachPair (λ p q. p ≢ q)) parts (pairs-from_distinct chain can.points_distinct) in
      let sides : sides_of_chain chain ≡ sides_along _ _ _ =
      ap sides_of_chain parts ∙ sides_of_chain-is _ _ _ in
      whole-sound (divide m face chain strings parcel label source)
      (divided-sound m face chain strings parcel label source valid can)
      (chain-once (strings_along (source ∷ []) strings chain) (sides_of_chain chain)
      (sides-strings_along (source ∷ []) strings chain can.as_many)
      (subst Once (sym sides) (along-once _ _ _ (pairs-front (_ ∷ _) (_ ∷ []) each)))
      (subst HasNoOpposites (sym sides) (no_opposites-along _ _ _ each))
      (maps.new-side m valid face chain strings parcel label source can)
      (maps.new-side_back m valid face chain strings parcel label source can))

  whole-enclose : (face : Face) (points strings : List ℕ) (parcel : ℕ) (label : List ℕ)
      (source : ℕ) → CanEnclose m face points strings parcel label source
      → HasWholeRings (enclose m face points strings parcel label source)
  whole-enclose face [] strings parcel label source can =
      absurd (let three = can.long in omega arith)
  whole-enclose face (a ∷ points) strings parcel label source can =
      let of = is_division-enclosed m valid face a points strings parcel label source can in
      let ring = a ∷ points in
      let closed = ring ++ a ∷ [] in
      let long : length strings + 1 ≡ length closed = let e =
      Rattle.std.proofs.lemmas.List.length-append ring (a ∷ []) in
      omega (arith, e, can.as_many) in
      whole-sound (enclose m face ring strings parcel label source)
      (enclosed-sound m face ring strings parcel label source valid can)
      (chain-once (strings_along (source ∷ []) strings closed) (sides_of ring)
      (sides-strings_along (source ∷ []) strings closed long ∙ sides_of_chain-is a points a)
      (along-once a points a
      (pairs-from_distinct ring can.points_distinct)) of.no_opposites of.new of.new_back)

  -- ---- A merger

  whole-merge : (k e : Face) → IsAllowed m (Merge k e) → HasWholeRings (merge m k e)
  whole-merge =
      of-parcels m (λ k e. HasWholeRings (merge m k e))
      (λ k e free. whole-sound (merge m (Parcel k) (Parcel e))
      (merged-sound m k e valid (can-merge m k e free))
      (part-once (λ s. not (is_shared m (Parcel k) (Parcel e) s)) m.strings old-once))

  -- ---- A split

  whole-split : (s : ℕ) (row : StringRow) (p : ℕ) (x y : ℤ) (first second : ℕ)
      → string_of m s ≡ Some row → IsNumber p × IsNumber first × IsNumber second
      → IsAllowed m (Split s p x y first second)
      → HasWholeRings (split m row p x y first second)
  whole-split s row p x y first second found numbers free =
      whole-sound (split m row p x y first second)
      (kept-split m s row p x y first second valid found numbers free)
      (grown-once (λ r. not (r.number == row.number)) rows four
      (λ u h k. apart u (was-there (λ r. not (r.number == row.number)) u h) k))
    where
      rows : List StringRow
      rows = record { number = first; from = row.from; to = p; sources = row.sources } ∷ record
          { number = second; from = p; to = row.to; sources = row.sources } ∷ []

      there : Contains m.strings row
      there = (find-Contains (λ (r : StringRow). r.number == s) m.strings row found).0

      away : (q : ℕ) → IsTrue (has_point m q) → q ≢ p
      away q known same =
          true≢false
          (sym known ∙ ap (λ (k : ℕ). is_some (point_of m k)) same
          ∙ ap (λ (o : Option PointRow). is_some o)
          (free-split m s p x y first second free.taken).0)

      ends : (r : StringRow) → Contains m.strings r → (r.from ≢ p) × (r.to ≢ p)
      ends r h = let k =
          All-at_each (λ (r : StringRow).
          IsTrue (has_point m r.from) × IsTrue
          (has_point m r.to)) m.strings r valid.sound.v1.ends h in (away r.from k.0, away r.to k.1)

      two : row.from ≢ row.to
      two = All-at_each (λ (r : StringRow). r.from ≢ r.to) m.strings row valid.sound.v2 there

      a : row.from ≢ p
      a = (ends row there).0

      b : row.to ≢ p
      b = (ends row there).1

      four : Once ((row.from, p) ∷ (p, row.from) ∷ (p, row.to) ∷ (row.to, p) ∷ [])
      four = (
        (
          (λ e. a (ap (λ (s : Side). s.0) e)),
          ((λ e. a (ap (λ (s : Side). s.0) e)), ((λ e. two (ap (λ (s : Side). s.0) e)), tt)),
        ),
        (
          ((λ e. two (ap (λ (s : Side). s.1) e)), ((λ e. a (ap (λ (s : Side). s.1) e)), tt)),
          (((λ e. b (ap (λ (s : Side). s.1) e)), tt), (tt, tt)),
        ),
      )

      -- a side that was there has no end at the new point
      off : (u : Side) → Contains (all_sides m) u → (u.0 ≢ p) × (u.1 ≢ p)
      off u h =
          let k = string_side m u
          (Contains-permutation (all_sides m) (string_sides m) u
          (IsPermutation-sym (string_sides m) (all_sides m) valid.sound.v5.once) h) in
          let both_ends = ends k.string k.there in
          elim k.is [
            | inl e ↦ (
              (λ q. both_ends.0 (sym (ap (λ (s : Side). s.0) e) ∙ q)),
              (λ q. both_ends.1 (sym (ap (λ (s : Side). s.1) e) ∙ q)),
            )
            | inr e ↦ (
              (λ q. both_ends.1 (sym (ap (λ (s : Side). s.0) e) ∙ q)),
              (λ q. both_ends.0 (sym (ap (λ (s : Side). s.1) e) ∙ q)),
            )
          ]

      apart : (u : Side) → Contains (all_sides m) u → Contains (sides_from rows) u → ⊥
      apart u h k =
          elim (Contains-cases (row.from, p)
          ((p, row.from) ∷ (p, row.to) ∷ (row.to, p) ∷ []) u k) [
            | inl e ↦ (off u h).1 (sym (ap (λ (s : Side). s.1) e))
            | inr k ↦ elim (Contains-cases (p, row.from) ((p, row.to) ∷ (row.to, p) ∷ []) u k) [
              | inl e ↦ (off u h).0 (sym (ap (λ (s : Side). s.0) e))
              | inr k ↦ elim (Contains-cases (p, row.to) ((row.to, p) ∷ []) u k) [
                | inl e ↦ (off u h).0 (sym (ap (λ (s : Side). s.0) e))
                | inr k ↦ elim (Contains-cases (row.to, p) [] u k) [
                  | inl e ↦ (off u h).1 (sym (ap (λ (s : Side). s.1) e))
                  | inr none ↦ let low = none.1 in omega arith
                ]
              ]
            ]
          ]

  -- ---- A join

  module _ (p new : ℕ) (number : IsNumber new) (free : IsAllowed m (Join p new))
      (two : MeetAt m p) where
    abbrev s : StringRow
    s = two.first

    abbrev t : StringRow
    t = two.second

    abbrev left : List StringRow
    left = filter (λ r. not (is_end r p)) m.strings

    abbrev row : StringRow
    row = record {
      number = new;
      from = far_end s p;
      to = far_end t p;
      sources =
          both_sources s.sources t.sources;
    }

    abbrev rings : List Boundary
    rings = map (dropped p) m.boundaries

    abbrev rows : Map
    rows = record m {
      points = without_row (λ (r : PointRow). r.number) p m.points;
      strings =
          left ++ row ∷ [];
    }

    join-is : with_boundaries rings rows ≡ join m p new
    join-is =
        ap (λ (l : List StringRow).
        with_boundaries rings
        (record m {
          points = without_row (λ (r : PointRow). r.number) p m.points;
          strings =
              left ++ string_joining p new l;
        })) (sym two.are)

    strings-after : string_sides rows ≡ flat_map both left ++ (far_end s p, far_end t p) ∷
        (far_end t p, far_end s p) ∷ []
    strings-after = flat_map-append both left (row ∷ [])

    sides-after : IsPermutation (string_sides rows) (sides_in rings)
    sides-after =
        subst (λ (l : List Side). IsPermutation l (sides_in rings)) (sym strings-after)
        (permuted-from_times
        (flat_map both left ++ (far_end s p, far_end t p) ∷ (far_end t p, far_end s p) ∷ [])
        (sides_in rings) (λ u.
        times-append u (flat_map both left)
        ((far_end s p, far_end t p) ∷ (far_end t p, far_end s p) ∷ [])
        ∙ sym (maps.once-join m valid p s t two.at u)))

    whole-join : AreNotJoined m (far_end s p) (far_end t p) → HasWholeRings (join m p new)
    whole-join look =
        let tested = kept-join m p new valid number free in
        let ends : AreApartEnds m valid p s t two.at =
        record { forth = look.forth; back = look.back } in
        let differ = maps.differ m valid p s t two.at in
        let a = far_end s p in
        let b = far_end t p in
        let v5 : HasCompleteRings (with_boundaries rings rows) =
        complete rows rings (three-join m valid p s t two.at ends) sides-after
        (apart-join m valid p s t two.at ends) in
        let pair : Once ((a, b) ∷ (b, a) ∷ []) =
        (((λ e. differ (ap (λ (u : Side). u.0) e)), tt), (tt, tt)) in
        let once : Once (string_sides rows) =
        grown-once (λ r. not (is_end r p)) (row ∷ []) pair
        (λ u h k. elim (Contains-cases (a, b) ((b, a) ∷ []) u k) [
          | inl e ↦
              look.forth
              (subst (Contains (all_sides m)) (sym e) (was-there (λ r. not (is_end r p)) u h))
          | inr k ↦ elim (Contains-cases (b, a) [] u k) [
            | inl e ↦
                look.back
                (subst (Contains (all_sides m)) (sym e) (was-there (λ r. not (is_end r p)) u h))
            | inr none ↦ let low = none.1 in omega arith
          ]
        ]) in
        whole-sound (join m p new)
        (record { v1 = tested.v1; v2 = tested.v2; v5 = subst HasCompleteRings join-is v5 })
        (subst (λ (n : Map). Once (string_sides n)) join-is once)

    -- where the far ends are joined, the first rule that is broken is V4: the two strings are
    -- parallel
    joined-breaks : (AreNotJoined m (far_end s p) (far_end t p) → ⊥)
        → FirstBroken (join m p new) V4
    joined-breaks some = record {
      kept = (v3, tt);
      broken = λ v4.
          let tested = kept-join m p new valid number free in
          let pairs =
          string_sides-once (join m p new)
          (record { v1 = tested.v1; v2 = tested.v2; v3 = v3 }) v4 in
          let ends =
          ends-apart m valid p s t two.at
          (subst Once strings-after
          (subst (λ (n : Map). Once (string_sides n)) (sym join-is) pairs)) in
          some (record { forth = ends.forth; back = ends.back });
    }
      where
        pairs-left : {X : Type 0} (test : X → X → Bool) (picked : X → Bool) (xs : List X)
            → each_pair test xs ≡ true → each_pair test (filter picked xs) ≡ true
        pairs-left test picked [] all = refl
        pairs-left test picked (x ∷ xs) all = by (picked x) refl (λ k. pairs-left test picked xs k)
          where
            both_parts : (list_all (test x) xs ≡ true) × (each_pair test xs ≡ true)
            both_parts = and_parts (list_all (test x) xs) (each_pair test xs) all

            by : (b : Bool) → picked x ≡ b
                → (each_pair test xs ≡ true → each_pair test (filter picked xs) ≡ true)
                → each_pair test (filter picked (x ∷ xs)) ≡ true
            by true is again =
                rw is (and_from (list_all (test x) (filter picked xs))
                (each_pair test (filter picked xs))
                (list_all-from (test x) (filter picked xs)
                (λ y h. list_all-at (test x) xs y both_parts.0
                (filter-Contains picked xs y h).0)) (again both_parts.1))
            by false is again = rw is (again both_parts.1)

        v3 : Keeps (join m p new) V3
        v3 = pairs-left (λ (a b : PointRow). not (is_same_position a.position b.position))
            (λ (r : PointRow). not (r.number == p)) m.points valid.keeps.v3

-- ---- Rows alone

unchanged : {R : Type 0} (m : Map) (o : Option R) (f : R → Map)
    → ((r : R) → (f r).boundaries ≡ m.boundaries)
    → (unwrap_or (option_map f o) m).boundaries ≡ m.boundaries
unchanged m None f same = refl
unchanged m (Some r) f same = same r

rings-sources : (m : Map) (i : Item) (change : List ℕ → List ℕ)
    → (change_sources i change m).boundaries ≡ m.boundaries
rings-sources m (item.Point n) change = unchanged m (point_of m n) _ (λ r. refl)
rings-sources m (item.String n) change = unchanged m (string_of m n) _ (λ r. refl)
rings-sources m (item.Parcel n) change =
    unchanged m (Rattle.cad_map.specs.Map.parcel_of m n) _ (λ r. refl)

there-split : (m : Map) (s p : ℕ) (x y : ℤ) (one two : ℕ) → IsAllowed m (Split s p x y one two)
    → (row : StringRow) × (string_of m s ≡ Some row)
there-split m s p x y one two free = by (string_of m s) refl
  where
    by : (o : Option StringRow) → string_of m s ≡ o
        → (row : StringRow) × (string_of m s ≡ Some row)
    by None is =
        absurd (true≢false
        (sym (there-one m (name.String s) free.unknown)
        ∙ ap (λ (o : Option StringRow). is_some o) is))
    by (Some row) is = (row, is)

-- The rings of the map after an edit that isn't refused at once are whole, where a join's far ends
-- aren't joined already.
pub whole-after : (m : Map) (e : Edit) → IsValid m → GivesInRange e → first_refusal m e ≡ None
    → FarEndsAreApart m e → HasWholeRings (after m e)
unfolding after
whole-after m (AddSource s text) v given none look =
    let sound = v.sound in
    record {
      v1 = kept-source m s text sound.v1 given.0 given.1 (allowed m (AddSource s text) none);
      v5 = record { three = sound.v5.three; once = sound.v5.once; two_faces = sound.v5.two_faces };
      once = sides-once m v;
    }
whole-after m (AddPoint p x y) v given none look =
    let sound = v.sound in
    let free = allowed m (AddPoint p x y) none in
    record {
      v1 = kept-point m
          (record { number = p; position = record { x = x; y = y }; sources = [] }) sound.v1 given
          (free-point m p x y free.taken) (position-in_range x y free.range)
          (record { known = tt; distinct = tt; few = omega arith })
          (room row_limit (length m.points) (not-when _ _ free.full));
      v5 = record { three = sound.v5.three; once = sound.v5.once; two_faces = sound.v5.two_faces };
      once = sides-once m v;
    }
whole-after m (DropPoint p) v given none look =
    let sound = v.sound in
    record {
      v1 = kept-drop m p sound (free-dropped m p (allowed m (DropPoint p) none).not_free);
      v5 = record { three = sound.v5.three; once = sound.v5.once; two_faces = sound.v5.two_faces };
      once = sides-once m v;
    }
whole-after m (Split s p x y one two) v given none look =
    let free = allowed m (Split s p x y one two) none in
    let there = there-split m s p x y one two free in
    rw there.1 (whole-split m v s there.0 p x y one two there.1 given free)
whole-after m (Join p s) v given none look =
    let free = allowed m (Join p s) none in
    let two = meet-at m p (two-joined m p s free.not_degree_two) in
    whole-join m v p s given free two (look two.first two.second two.are)
whole-after m (Divide face chain strings parcel label source) v given none look =
    whole-divide m v face chain strings parcel label source
    (can-divide m face chain strings parcel label source given
    (allowed m (Divide face chain strings parcel label source) none))
whole-after m (Merge k e) v given none look = whole-merge m v k e (allowed m (Merge k e) none)
whole-after m (Move p x y) v given none look =
    same-rings m _ v (kept-move m p x y v.sound (allowed m (Move p x y) none))
    (unchanged m (point_of m p) _ (λ r. refl))
whole-after m (Attach i s) v given none look =
    same-rings m _ v (kept-attach m i s v.sound (allowed m (Attach i s) none))
    (rings-sources m i _)
whole-after m (Detach i s) v given none look =
    same-rings m _ v (kept-detach m i s v.sound) (rings-sources m i _)
whole-after m (Rename p label) v given none look =
    same-rings m _ v (kept-rename m p label v.sound given)
    (unchanged m (Rattle.cad_map.specs.Map.parcel_of m p) _ (λ r. refl))
whole-after m (Enclose face points strings parcel label source) v given none look =
    whole-enclose m v face points strings parcel label source
    (can-enclose m face points strings parcel label source given
    (allowed m (Enclose face points strings parcel label source) none))

-- And where they are joined, a join breaks V4 first.
pub join-breaks : (m : Map) (p new : ℕ) → IsValid m → GivesInRange (Join p new)
    → first_refusal m (Join p new) ≡ None → (FarEndsAreApart m (Join p new) → ⊥)
    → FirstBroken (after m (Join p new)) V4
unfolding after
join-breaks m p new v given none some =
    let free = allowed m (Join p new) none in
    let two = meet-at m p (two-joined m p new free.not_degree_two) in
    joined-breaks m v p new given free two (λ look. some (λ s t are.
    let same : two.first ∷ two.second ∷ [] ≡ s ∷ t ∷ [] = sym two.are ∙ are in
    let one : two.first ≡ s = cc in
    let other : two.second ≡ t = cc in
    subst (λ (q : StringRow × StringRow). AreNotJoined m (far_end q.0 p) (far_end q.1 p))
    (λ i. (one i, other i)) look))
