-- A string split at a new point: what it keeps of a valid map.
use Rattle.std.proofs.Common.{◌≡◌, ◌≢◌, ℕ, ◌+◌, ◌≤◌, ◌⊎◌, inl, inr, refl, sym, ap, subst, ◌∙◌, append_assoc, List, [], ◌∷◌, ◌++◌, length, map, Bool, true, false, cond, not, nat_eq, ◌==◌, Some, None, Option, is_some, true≢false, arith}
use Rattle.std.specs.Prelude.{IsTrue, IsPermutation, flat_map, ℤ, nat_le}
use Rattle.std.specs.List.{AllByRecursion, Contains}
use Rattle.std.proofs.lemmas.Bool.{false_from_ne_true}
use Rattle.std.proofs.lemmas.Cmp.{nat_eq_equiv}
use Rattle.std.proofs.lemmas.Grind.{flat_map-append}
use Rattle.cad_rows.specs.Limits.{row_limit, string_limit, IsNumber}
use Rattle.cad_rows.specs.declared.edits.Edit.TheVariants.{Split}
use Rattle.cad_rows.specs.declared.names.Face.{Face}
use Rattle.cad_rows.specs.declared.rows.PointRow.{PointRow}
use Rattle.cad_rows.specs.declared.rows.StringRow.{StringRow}
use Rattle.cad_rings.specs.Cycle.{Ring, Side, is_side, opposite, sides_of, sides_along}
use Rattle.cad_rings.specs.Surgery.{put_on, halves_by}
use Rattle.cad_rings.proofs.CallerLemmas.{is_side-same, sides_of-put_on, halves_once, length-put_on}
use Rattle.cad_map.specs.declared.boundary.Boundary.{Boundary}
use Rattle.cad_map.specs.Boundaries.{bounding, sides_in}
use Rattle.cad_map.specs.Map.{Map, point_of, string_of, has_point, has_face, side_of, string_sides, all_sides}
use Rattle.numbered_rows.specs.Rows.{row_with, without_row}
use Rattle.cad_map.specs.Valid.{AreSources, HasSoundRows, HasCompleteRings, IsSound, IsValid}
use Rattle.cad_map.specs.Changes.{split, with_boundaries}
use Rattle.cad_map.proofs.Lists.Elements.{Contains-cases, Contains-in_part, Contains-flat_map, All-at_each, count-some}
use Rattle.cad_map.proofs.Lists.ElementFacts.{map-Contains, find-Contains}
use Rattle.cad_map.proofs.Lists.EachElement.{All-push, All-filter, All-follows, All-map, found-push, found-number}
use Rattle.numbered_rows.proofs.Removed.{none-filter}
use Rattle.cad_map.proofs.Lists.RowsLeft.{sum-without, length-without, none-push}
use Rattle.cad_map.proofs.Walks.Counted.{times, times-append, times-cons, times-permuted, times-flat_map, permuted-from_times}
use Rattle.cad_map.proofs.Walks.AlongRing.{is_side-refl, once-from_pairs}
use Rattle.cad_map.proofs.Boundaries.FacesBeside.{IsBeside, both_sides, sides-once, in_all, of_string}
use Rattle.cad_map.proofs.Boundaries.TwoFaces.{AreApart, apart-valid, complete}
use Rattle.cad_map.proofs.Edits.Allowed.{IsAllowed, not-when, free-split, halves-differ, position-in_range, room}
use Rattle.cad_map.proofs.Edits.KeptRows.{kept-point, kept-strings_left, kept-string, kept-rings, or-none, length-push}

-- ---- The points of the rings

All-put_on : (P : ℕ → Type 0) (s : Side) (p : ℕ) (ring : Ring) → P p → AllByRecursion P ring → AllByRecursion P (put_on s p ring)
All-put_on P s p ring new all = each (sides_of ring) (starts_of ring all)
  where
    starts_along : (a : ℕ) (points : List ℕ) (z : ℕ) → AllByRecursion P (a ∷ points) → AllByRecursion (λ (t : Side). P t.0) (sides_along a points z)
    starts_along a [] z all = (all.0, tt)
    starts_along a (b ∷ points) z all = (all.0, starts_along b points z all.1)

    starts_of : (ring : Ring) → AllByRecursion P ring → AllByRecursion (λ (t : Side). P t.0) (sides_of ring)
    starts_of [] all = tt
    starts_of (a ∷ points) all = starts_along a points a all

    each : (sides : List Side) → AllByRecursion (λ (t : Side). P t.0) sides → AllByRecursion P (flat_map (λ t. cond (is_side s t) (t.0 ∷ p ∷ []) (t.0 ∷ [])) sides)
    each [] h = tt
    each (t ∷ sides) h = by (is_side s t) (each sides h.1)
      where
        by : (b : Bool) → AllByRecursion P (flat_map (λ t. cond (is_side s t) (t.0 ∷ p ∷ []) (t.0 ∷ [])) sides) → AllByRecursion P (cond b (t.0 ∷ p ∷ []) (t.0 ∷ []) ++ flat_map (λ t. cond (is_side s t) (t.0 ∷ p ∷ []) (t.0 ∷ [])) sides)
        by true rest = (h.0, (new, rest))
        by false rest = (h.0, rest)

-- ---- The sides of the rings

-- a ring with the point on both sides of the string
abbrev pub split_ring : Side → ℕ → Ring → Ring
split_ring s p ring = put_on (opposite s) p (put_on s p ring)

sides-split_ring : (s : Side) (p : ℕ) (ring : Ring) → sides_of (split_ring s p ring) ≡ flat_map (halves_by (opposite s) p) (flat_map (halves_by s p) (sides_of ring))
sides-split_ring s p ring = sides_of-put_on (opposite s) p (put_on s p ring) ∙ ap (λ (l : List Side). flat_map (halves_by (opposite s) p) l) (sides_of-put_on s p ring)

abbrev pub split_boundary : Side → ℕ → Boundary → Boundary
split_boundary s p b = bounding b.face (split_ring s p b.ring)

sides-split : (s : Side) (p : ℕ) (bs : List Boundary) → sides_in (map (split_boundary s p) bs) ≡ flat_map (halves_by (opposite s) p) (flat_map (halves_by s p) (sides_in bs))
sides-split s p [] = refl
sides-split s p (b ∷ bs) =
    (λ i. sides-split_ring s p b.ring i ++ sides-split s p bs i)
    ∙ sym (flat_map-append (halves_by (opposite s) p) (flat_map (halves_by s p) (sides_of b.ring)) (flat_map (halves_by s p) (sides_in bs)))
    ∙ ap (λ (l : List Side). flat_map (halves_by (opposite s) p) l) (sym (flat_map-append (halves_by s p) (sides_of b.ring) (sides_in bs)))

is_side-no : (s t : Side) → s ≢ t → is_side s t ≡ false
is_side-no s t differ = false_from_ne_true (is_side s t) (λ h. differ (is_side-same s t h))

module _ (m : Map) (valid : IsValid m) (s : StringRow) (there : Contains m.strings s) (p : ℕ) (new : point_of m p ≡ None) where
  abbrev forth : Side
  forth = side_of s

  abbrev halves : List Side
  halves = (s.from, p) ∷ (p, s.from) ∷ (p, s.to) ∷ (s.to, p) ∷ []

  ends-there : IsTrue (has_point m s.from) × IsTrue (has_point m s.to)
  ends-there = All-at_each (λ (t : StringRow). IsTrue (has_point m t.from) × IsTrue (has_point m t.to)) m.strings s valid.sound.v1.ends there

  two : s.from ≢ s.to
  two = All-at_each (λ (t : StringRow). t.from ≢ t.to) m.strings s valid.sound.v2 there

  not-new : (q : ℕ) → IsTrue (has_point m q) → q ≢ p
  not-new q known same = true≢false (sym known ∙ ap (λ (k : ℕ). is_some (point_of m k)) same ∙ ap (λ (o : Option PointRow). is_some o) new)

  once-all : (t : Side) → Contains (string_sides m) t → times t (all_sides m) ≡ 1
  once-all t h =
      let few = once-from_pairs (all_sides m) (sides-once m valid) t in
      let some = count-some (is_side t) (all_sides m) t (in_all m valid t h) (is_side-refl t) in
      omega (arith, few, some)

  -- the sides of the rings, each as often as one of the strings or of the two halves
  once-split : (strings : List Side) → ((u : Side) → times u (string_sides m) ≡ times u (forth ∷ opposite forth ∷ []) + times u strings) → IsPermutation (strings ++ halves) (sides_in (map (split_boundary forth p) m.boundaries))
  once-split strings parted =
      let L0 = all_sides m in
      let L1 = flat_map (halves_by forth p) L0 in
      let sides = both_sides m s there in
      let first = halves_once forth p L0 (once-all forth sides.0) in
      let once = once-all (opposite forth) sides.1 in
      let back : times (opposite forth) L1 ≡ 1 =
      let e = times-permuted (opposite forth) (forth ∷ L1) ((s.from, p) ∷ (p, s.to) ∷ L0) first in
      let a = times-cons (opposite forth) forth L1 in
      let b = times-cons (opposite forth) (s.from, p) ((p, s.to) ∷ L0) in
      let c = times-cons (opposite forth) (p, s.to) L0 in
      let x = is_side-no (opposite forth) forth (λ h. two (sym (ap (λ (t : Side). t.0) h))) in
      let y = is_side-no (opposite forth) (s.from, p) (λ h. two (sym (ap (λ (t : Side). t.0) h))) in
      let z = is_side-no (opposite forth) (p, s.to) (λ h. two (ap (λ (t : Side). t.1) h)) in
      let a' = rw x at a in let b' = rw y at b in let c' = rw z at c in
      omega (arith, e, a', b', c', once)
      in
      let second = halves_once (opposite forth) p L1 back in
      subst (λ (l : List Side). IsPermutation (strings ++ halves) l) (sym (sides-split forth p m.boundaries))
      (permuted-from_times (strings ++ halves) (flat_map (halves_by (opposite forth) p) L1) (λ u.
      let e1 = times-permuted u (forth ∷ L1) ((s.from, p) ∷ (p, s.to) ∷ L0) first in
      let e2 = times-permuted u (opposite forth ∷ flat_map (halves_by (opposite forth) p) L1) ((s.to, p) ∷ (p, s.from) ∷ L1) second in
      let e3 = times-permuted u (string_sides m) L0 valid.sound.v5.once in
      let e4 = parted u in
      let a1 = times-cons u forth L1 in
      let a2 = times-cons u (s.from, p) ((p, s.to) ∷ L0) in
      let a3 = times-cons u (p, s.to) L0 in
      let b1 = times-cons u (opposite forth) (flat_map (halves_by (opposite forth) p) L1) in
      let b2 = times-cons u (s.to, p) ((p, s.from) ∷ L1) in
      let b3 = times-cons u (p, s.from) L1 in
      let c1 = times-cons u forth (opposite forth ∷ []) in
      let c2 = times-cons u (opposite forth) [] in
      let d = times-append u strings halves in
      let d1 = times-cons u (s.from, p) ((p, s.from) ∷ (p, s.to) ∷ (s.to, p) ∷ []) in
      let d2 = times-cons u (p, s.from) ((p, s.to) ∷ (s.to, p) ∷ []) in
      let d3 = times-cons u (p, s.to) ((s.to, p) ∷ []) in
      let d4 = times-cons u (s.to, p) [] in
      omega (arith, e1, e2, e3, e4, a1, a2, a3, b1, b2, b3, c1, c2, d, d1, d2, d3, d4)))

  -- ---- Where a side of the new rings comes from

  -- the side leads along the string, one way or the other
  abbrev pub IsAlong : ℕ → ℕ → Type 0
  IsAlong a b = ((a ≡ s.from) × (b ≡ s.to)) ⊎ ((a ≡ s.to) × (b ≡ s.from))

  pub data Came (f : Face) (u : Side) : Type 0 where
    whole : IsBeside f u m.boundaries → Came f u
    first_half : (a b : ℕ) → IsAlong a b → IsBeside f (a, b) m.boundaries → u ≡ (a, p) → Came f u
    second_half : (a b : ℕ) → IsAlong a b → IsBeside f (a, b) m.boundaries → u ≡ (p, b) → Came f u

  pub along-known : (a b : ℕ) → IsAlong a b → (a ≢ p) × (b ≢ p)
  along-known a b along = elim along [
    | inl e ↦ ((λ h. not-new s.from ends-there.0 (sym e.0 ∙ h)), (λ h. not-new s.to ends-there.1 (sym e.1 ∙ h)))
    | inr e ↦ ((λ h. not-new s.to ends-there.1 (sym e.0 ∙ h)), (λ h. not-new s.from ends-there.0 (sym e.1 ∙ h)))
  ]

  -- an old side doesn't touch the new point
  pub old-known : (f : Face) (u : Side) → IsBeside f u m.boundaries → (u.0 ≢ p) × (u.1 ≢ p)
  old-known f u k =
      let string = of_string m valid u (Contains-flat_map (λ b. sides_of b.ring) m.boundaries k.boundary u k.there k.has) in
      let t = string.string in
      let ends = All-at_each (λ (t : StringRow). IsTrue (has_point m t.from) × IsTrue (has_point m t.to)) m.strings t valid.sound.v1.ends string.there in
      elim string.is [
        | inl e ↦ ((λ h. not-new t.from ends.0 (ap (λ (v : Side). v.0) (sym e) ∙ h)), (λ h. not-new t.to ends.1 (ap (λ (v : Side). v.1) (sym e) ∙ h)))
        | inr e ↦ ((λ h. not-new t.to ends.1 (ap (λ (v : Side). v.0) (sym e) ∙ h)), (λ h. not-new t.from ends.0 (ap (λ (v : Side). v.1) (sym e) ∙ h)))
      ]

  -- a half of a side, or the side itself
  data IsHalf (v t u : Side) : Type 0 where
    itself : t ≡ u → IsHalf v t u
    first_of : v ≡ t → u ≡ (t.0, p) → IsHalf v t u
    second_of : v ≡ t → u ≡ (p, t.1) → IsHalf v t u

  half : (v t u : Side) → Contains (halves_by v p t) u → IsHalf v t u
  half v t u h = by (is_side v t) refl
    where
      by : (b : Bool) → is_side v t ≡ b → IsHalf v t u
      by true is = elim (Contains-cases (t.0, p) ((p, t.1) ∷ []) u (rw is at h)) [
        | inl e ↦ first_of (is_side-same v t is) (sym e)
        | inr later ↦ elim (Contains-cases (p, t.1) [] u later) [ inl e ↦ second_of (is_side-same v t is) (sym e) | inr none ↦ let low = none.1 in absurd (omega arith) ]
      ]
      by false is = elim (Contains-cases t [] u (rw is at h)) [ inl e ↦ itself e | inr none ↦ let low = none.1 in absurd (omega arith) ]

  came-from : (f : Face) (t v u : Side) → IsBeside f t m.boundaries → IsHalf forth t v → IsHalf (opposite forth) v u → Came f u
  came-from f t v u k (itself e) (itself e') = whole (subst (λ (w : Side). IsBeside f w m.boundaries) (e ∙ e') k)
  came-from f t v u k (itself e) (first_of is e') = first_half v.0 v.1 (inr (ap (λ (w : Side). w.0) (sym is), ap (λ (w : Side). w.1) (sym is))) (subst (λ (w : Side). IsBeside f w m.boundaries) e k) e'
  came-from f t v u k (itself e) (second_of is e') = second_half v.0 v.1 (inr (ap (λ (w : Side). w.0) (sym is), ap (λ (w : Side). w.1) (sym is))) (subst (λ (w : Side). IsBeside f w m.boundaries) e k) e'
  came-from f t v u k (first_of is e) (itself e') = first_half t.0 t.1 (inl (ap (λ (w : Side). w.0) (sym is), ap (λ (w : Side). w.1) (sym is))) k (sym e' ∙ e)
  came-from f t v u k (second_of is e) (itself e') = second_half t.0 t.1 (inl (ap (λ (w : Side). w.0) (sym is), ap (λ (w : Side). w.1) (sym is))) k (sym e' ∙ e)
  came-from f t v u k (first_of is e) (first_of is' e') = absurd (not-new s.from ends-there.0 (ap (λ (w : Side). w.1) (is' ∙ e)))
  came-from f t v u k (first_of is e) (second_of is' e') = absurd (not-new s.from ends-there.0 (ap (λ (w : Side). w.1) (is' ∙ e)))
  came-from f t v u k (second_of is e) (first_of is' e') = absurd (not-new s.to ends-there.1 (ap (λ (w : Side). w.0) (is' ∙ e)))
  came-from f t v u k (second_of is e) (second_of is' e') = absurd (not-new s.to ends-there.1 (ap (λ (w : Side). w.0) (is' ∙ e)))

  pub came : (f : Face) (u : Side) → IsBeside f u (map (split_boundary forth p) m.boundaries) → Came f u
  came f u k =
      let from = map-Contains (split_boundary forth p) m.boundaries k.boundary k.there in
      let b = from.0 in
      let has : Contains (flat_map (halves_by (opposite forth) p) (flat_map (halves_by forth p) (sides_of b.ring))) u =
      subst (λ (l : List Side). Contains l u) (ap (λ (c : Boundary). sides_of c.ring) (sym from.2) ∙ sides-split_ring forth p b.ring) k.has in
      let outer = Contains-in_part (halves_by (opposite forth) p) (flat_map (halves_by forth p) (sides_of b.ring)) u has in
      let inner = Contains-in_part (halves_by forth p) (sides_of b.ring) outer.0 outer.1 in
      came-from f inner.0 outer.0 u (record { boundary = b; there = from.1; face = k.face ∙ ap (λ (c : Boundary). c.face) (sym from.2); has = inner.1 })
      (half forth inner.0 outer.0 inner.2) (half (opposite forth) outer.0 u outer.2)

  -- two sides along the string that share an end are each other's opposite
  along-back : (a b c : ℕ) → IsAlong a b → IsAlong b c → c ≡ a
  along-back a b c one other = elim one [
    | inl e ↦ elim other [ inl g ↦ absurd (two (sym g.0 ∙ e.1)) | inr g ↦ g.1 ∙ sym e.0 ]
    | inr e ↦ elim other [ inl g ↦ g.1 ∙ sym e.0 | inr g ↦ absurd (two (sym e.1 ∙ g.0)) ]
  ]

  along-before : (a b c : ℕ) → IsAlong a b → IsAlong c a → c ≡ b
  along-before a b c one other = sym (along-back c a b other one)

  pub apart-split : AreApart (map (split_boundary forth p) m.boundaries)
  apart-split = record { apart = λ u f g here there. by u f g (came f u here) (came g (opposite u) there) }
    where
      old : AreApart m.boundaries
      old = apart-valid m valid

      by : (u : Side) (f g : Face) → Came f u → Came g (opposite u) → f ≢ g
      by u f g (whole k) (whole l) = old.apart u f g k l
      by u f g (whole k) (first_half a b along l e) = absurd ((old-known f u k).0 (ap (λ (v : Side). v.1) e))
      by u f g (whole k) (second_half a b along l e) = absurd ((old-known f u k).1 (ap (λ (v : Side). v.0) e))
      by u f g (first_half a b along k e) (whole l) = absurd ((old-known g (opposite u) l).0 (ap (λ (v : Side). v.1) e))
      by u f g (first_half a b along k e) (first_half c d too l e') = absurd ((along-known c d too).0 (sym (ap (λ (v : Side). v.0) e') ∙ ap (λ (v : Side). v.1) e))
      by u f g (first_half a b along k e) (second_half c d too l e') =
          let same : d ≡ a = sym (ap (λ (v : Side). v.1) e') ∙ ap (λ (v : Side). v.0) e in
          let back : c ≡ b = along-before a b c along (subst (IsAlong c) same too) in
          old.apart (a, b) f g k (subst (λ (v : Side). IsBeside g v m.boundaries) (λ i. (back i, same i)) l)
      by u f g (second_half a b along k e) (whole l) = absurd ((old-known g (opposite u) l).1 (ap (λ (v : Side). v.0) e))
      by u f g (second_half a b along k e) (first_half c d too l e') =
          let same : c ≡ b = sym (ap (λ (v : Side). v.0) e') ∙ ap (λ (v : Side). v.1) e in
          let back : d ≡ a = along-back a b d along (subst (λ (q : ℕ). IsAlong q d) same too) in
          old.apart (a, b) f g k (subst (λ (v : Side). IsBeside g v m.boundaries) (λ i. (same i, back i)) l)
      by u f g (second_half a b along k e) (second_half c d too l e') = absurd ((along-known c d too).1 (sym (ap (λ (v : Side). v.1) e') ∙ ap (λ (v : Side). v.0) e))

  three-split : AllByRecursion (λ b. 3 ≤ length b.ring) (map (split_boundary forth p) m.boundaries)
  three-split =
      All-map (λ b. 3 ≤ length b.ring) (split_boundary forth p) m.boundaries
      (All-follows (λ b. 3 ≤ length b.ring) (λ b. 3 ≤ length (split_ring forth p b.ring)) (λ b h. let e = length-put_on forth p b.ring in let k = length-put_on (opposite forth) p (put_on forth p b.ring) in omega (arith, h, e, k)) m.boundaries valid.sound.v5.three)

-- ---- All of it

-- a map with a string split at a new point
pub kept-split : (m : Map) (s : ℕ) (row : StringRow) (p : ℕ) (x y : ℤ) (first second : ℕ) → IsValid m → string_of m s ≡ Some row → IsNumber p × IsNumber first × IsNumber second → IsAllowed m (Split s p x y first second)
    → IsSound (split m row p x y first second)
kept-split m s row p x y first second valid found numbers free = record { v1 = v1; v2 = v2; v5 = v5 }
  where
    there : Contains m.strings row
    there = (find-Contains (λ (r : StringRow). r.number == s) m.strings row found).0

    new : (point_of m p ≡ None) × (string_of m first ≡ None) × (string_of m second ≡ None)
    new = free-split m s p x y first second free.taken

    differ : first ≢ second
    differ = halves-differ s p x y first second free.bad_chain

    again : string_of m row.number ≡ Some row
    again = ap (λ (k : ℕ). string_of m k) (found-number (λ (r : StringRow). r.number) s m.strings row found) ∙ found

    full : (nat_le row_limit (length m.points) ≡ false) × (nat_le string_limit (length m.strings) ≡ false)
    full = or-none _ _ (not-when _ _ free.full)

    point : PointRow
    point = record { number = p; position = record { x = x; y = y }; sources = [] }

    one : StringRow
    one = record { number = first; from = row.from; to = p; sources = row.sources }

    other : StringRow
    other = record { number = second; from = p; to = row.to; sources = row.sources }

    left : List StringRow
    left = without_row (λ r. r.number) row.number m.strings

    with_point_put : Map
    with_point_put = record m { points = m.points ++ point ∷ [] }

    with_string_left : Map
    with_string_left = record with_point_put { strings = left }

    with_one : Map
    with_one = record with_point_put { strings = left ++ one ∷ [] }

    with_rows : Map
    with_rows = record with_point_put { strings = (left ++ one ∷ []) ++ other ∷ [] }

    rings : List Boundary
    rings = map (split_boundary (side_of row) p) m.boundaries

    sources : AreSources m.sources row.sources
    sources = All-at_each (λ (r : StringRow). AreSources m.sources r.sources) m.strings row valid.sound.v1.string_sources there

    known : (q : ℕ) → IsTrue (has_point m q) → IsTrue (has_point with_point_put q)
    known q h = found-push (λ (r : PointRow). r.number) q m.points point h

    known-new : IsTrue (has_point with_point_put p)
    known-new = found-last m.points
      where
        found-last : (rows : List PointRow) → IsTrue (is_some (row_with (λ (r : PointRow). r.number) p (rows ++ point ∷ [])))
        found-last [] = rw (nat_eq_equiv.refl p) refl
        found-last (r ∷ rows) = either (nat_eq r.number p) (found-last rows)
          where
            either : (b : Bool) → IsTrue (is_some (row_with (λ (r : PointRow). r.number) p (rows ++ point ∷ []))) → IsTrue (is_some (cond b (Some r) (row_with (λ (r : PointRow). r.number) p (rows ++ point ∷ []))))
            either true rest = refl
            either false rest = rest

    rows : HasSoundRows with_rows
    rows =
        let v = valid.sound.v1 in
        let ends = ends-there m valid row there p new.0 in
        let a = kept-point m point v numbers.0 new.0 (position-in_range x y free.range) (record { known = tt; distinct = tt; few = omega arith }) (room row_limit (length m.points) full.0) in
        let less = length-without (λ (r : StringRow). r.number) row.number row m.strings again in
        let fits = room string_limit (length m.strings) full.1 in
        let b = kept-strings_left with_point_put (λ r. not (r.number == row.number)) a in
        let c = kept-string with_string_left one b numbers.1 (none-filter (λ (r : StringRow). r.number) _ first m.strings new.1) (known row.from ends.0, known-new) sources (omega (arith, less, fits)) in
        let more = length-push left one in
        kept-string with_one other c numbers.2 (none-push (λ (r : StringRow). r.number) second left one differ (none-filter (λ (r : StringRow). r.number) _ second m.strings new.2)) (known-new, known row.to ends.1) sources (omega (arith, less, fits, more))

    v1 : HasSoundRows (split m row p x y first second)
    v1 = subst (λ (strings : List StringRow). HasSoundRows (with_boundaries rings (record with_point_put { strings = strings }))) (append_assoc left (one ∷ []) (other ∷ []))
        (kept-rings with_rows rings rows
        (All-map (λ b. AllByRecursion (λ q. IsTrue (has_point with_rows q)) b.ring) (split_boundary (side_of row) p) m.boundaries
        (All-follows (λ b. AllByRecursion (λ q. IsTrue (has_point m q)) b.ring) (λ b. AllByRecursion (λ q. IsTrue (has_point with_rows q)) (split_ring (side_of row) p b.ring))
        (λ b all. put_on-known (opposite (side_of row)) (put_on (side_of row) p b.ring) (put_on-known (side_of row) b.ring (All-follows (λ q. IsTrue (has_point m q)) (λ q. IsTrue (has_point with_rows q)) known b.ring all))) m.boundaries valid.sound.v1.points_of_rings))
        (All-map (λ b. IsTrue (has_face with_rows b.face)) (split_boundary (side_of row) p) m.boundaries valid.sound.v1.faces_of_rings))
      where
        put_on-known : (s : Side) (ring : Ring) → AllByRecursion (λ q. IsTrue (has_point with_rows q)) ring → AllByRecursion (λ q. IsTrue (has_point with_rows q)) (put_on s p ring)
        put_on-known s ring all = All-put_on (λ q. IsTrue (has_point with_rows q)) s p ring known-new all

    v2 : AllByRecursion (λ (t : StringRow). t.from ≢ t.to) (left ++ one ∷ other ∷ [])
    v2 =
        let ends = ends-there m valid row there p new.0 in
        subst (λ (l : List StringRow). AllByRecursion (λ (t : StringRow). t.from ≢ t.to) l) (append_assoc left (one ∷ []) (other ∷ []))
        (All-push (λ (t : StringRow). t.from ≢ t.to) (left ++ one ∷ []) other
        (All-push (λ (t : StringRow). t.from ≢ t.to) left one (All-filter (λ (t : StringRow). t.from ≢ t.to) _ m.strings valid.sound.v2) (not-new m valid row there p new.0 row.from ends.0))
        (λ h. not-new m valid row there p new.0 row.to ends.1 (sym h)))

    v5 : HasCompleteRings (split m row p x y first second)
    v5 =
        let sides : List StringRow → List Side = λ (l : List StringRow). flat_map (λ (t : StringRow). side_of t ∷ opposite (side_of t) ∷ []) l in
        let once = once-split m valid row there p new.0 (sides left) (λ u.
        times-flat_map u (λ (t : StringRow). side_of t ∷ opposite (side_of t) ∷ []) m.strings
        ∙ sum-without (λ (r : StringRow). r.number) (λ t. times u (side_of t ∷ opposite (side_of t) ∷ [])) row.number row m.strings valid.sound.v1.strings.distinct again
        ∙ ap (λ (n : ℕ). times u (side_of row ∷ opposite (side_of row) ∷ []) + n) (sym (times-flat_map u (λ (t : StringRow). side_of t ∷ opposite (side_of t) ∷ []) left))) in
        complete (record with_point_put { strings = left ++ one ∷ other ∷ [] }) rings (three-split m valid row there p new.0)
        (subst (λ (l : List Side). IsPermutation l (sides_in rings)) (sym (flat_map-append (λ (t : StringRow). side_of t ∷ opposite (side_of t) ∷ []) left (one ∷ other ∷ []))) once)
        (apart-split m valid row there p new.0)
