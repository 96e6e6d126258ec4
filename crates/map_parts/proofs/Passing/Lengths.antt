-- How long the two rings at a point between two others are: no longer than all rings through it.
use Rattle.std.proofs.Common.{◌≡◌, ℕ, ◌+◌, ◌≤◌, ◌==◌, inl, inr, refl, sym, ap, subst, ◌∙◌, List, [], ◌∷◌, length, map, filter, not, Bool, true, false, arith}
use Rattle.std.specs.Prelude.{sum_by, count_by}
use Rattle.std.specs.List.{Contains, list_any}
use Rattle.std.proofs.lemmas.Bool.{eq-eqb}
use Rattle.std.proofs.lemmas.List.{length-map}
use Rattle.std.proofs.lemmas.List.Sums.{sum_by-cons}
use Rattle.std.proofs.lemmas.List.Sorted.{Contains-permutation}
use Rattle.cad_rings.specs.Cycle.{Side, sides_of, corners_of}
use Rattle.cad_rings.specs.Canonical.{least_rotation}
use Rattle.cad_rings.specs.Surgery.{corner, without}
use Rattle.cad_rings.proofs.CallerLemmas.{IsSameRing-length, IsSameRing-least_rotation}
use Rattle.cad_map.specs.declared.boundary.Boundary.{Boundary}
use Rattle.cad_map.specs.Boundaries.{bounding, canonical_form, corners_in}
use Rattle.cad_map.specs.Map.{Map}
use Rattle.cad_map.specs.Rings.{HasWholeRings}
use Rattle.cad_map.proofs.CallerLemmas.{Contains-cases, Contains-filter, Contains-in_part, Contains-map, All-at_each, count-no, corner-sides, through-corners}
use Rattle.cad_laws.specs.Counts.{sides_through}
use Rattle.cad_laws.specs.Local.{IsShown, IsLocal, side_by}
use Rattle.cad_laws.specs.Touching.{passes}
use Rattle.cad_laws.proofs.CallerLemmas.{two-whole}
use Rattle.half_table.specs.declared.half.Half.{Half}
use Rattle.half_table.specs.Half.{twin}
use Rattle.half_table.specs.Rows.{HalfRows, origin_of, cycle}
use Rattle.key_lists.specs.Held.{Held}
use Rattle.map_parts.specs.Parts.{HasHalves}
use Rattle.map_parts.specs.Passing.{HasBetween, FitTable}
use Rattle.map_parts.specs.declared.edits.passing.Passing.{Passing}
use Rattle.map_parts.proofs.RingsOfHalves.{cycle-same_ring}
use Rattle.map_parts.proofs.Passing.OneHand.{one-hand}
use Rattle.map_parts.proofs.Passing.RingsWithout as rings
use Rattle.map_parts.proofs.Passing.Between as between
use Rattle.map_parts.proofs.Passing.Between.{along-side, twin-side}

-- ---- Lists

one-sum : {X : Type 0} (f : X → ℕ) (xs : List X) (x : X) → Contains xs x → f x ≤ sum_by f xs
one-sum f [] x h = let low = h.1 in absurd (omega arith)
one-sum f (y ∷ xs) x h =
    let e = sum_by-cons f y xs in
    elim (Contains-cases y xs x h) [
      | inl same ↦ let k = ap f same in omega (arith, e, k)
      | inr later ↦ let k = one-sum f xs x later in omega (arith, e, k)
    ]

two-sum : {X : Type 0} (f : X → ℕ) (xs : List X) (x y : X) → Contains xs x → Contains xs y
    → (x ≡ y → ⊥) → f x + f y ≤ sum_by f xs
two-sum f [] x y h k apart = let low = h.1 in absurd (omega arith)
two-sum f (z ∷ xs) x y h k apart =
    let e = sum_by-cons f z xs in
    elim (Contains-cases z xs x h) [
      | inl here ↦ elim (Contains-cases z xs y k) [
        | inl too ↦ absurd (apart (sym here ∙ too))
        | inr later ↦ let a = ap f here in let b = one-sum f xs y later in omega (arith, e, a, b)
      ]
      | inr later ↦ elim (Contains-cases z xs y k) [
        | inl here ↦ let a = ap f here in let b = one-sum f xs x later in omega (arith, e, a, b)
        | inr last ↦ let a = two-sum f xs x y later last apart in omega (arith, e, a)
      ]
    ]

any-counted : {X : Type 0} (test : X → Bool) (xs : List X) → 1 ≤ count_by test xs → list_any test xs ≡ true
any-counted test [] some = absurd (omega arith)
any-counted test (x ∷ xs) some = by (test x) refl (λ rest. any-counted test xs rest)
  where
    by : (b : Bool) → test x ≡ b → (1 ≤ count_by test xs → list_any test xs ≡ true)
        → list_any test (x ∷ xs) ≡ true
    by true is again = rw is refl
    by false is again = let e = count-no test x xs is in rw is (again (omega (arith, some, e)))

fewer : {X : Type 0} (test : X → Bool) (xs : List X) → length (filter test xs) ≤ length xs
fewer test [] = omega arith
fewer test (x ∷ xs) = by (test x) refl (fewer test xs)
  where
    by : (b : Bool) → test x ≡ b → length (filter test xs) ≤ length xs → length (filter test (x ∷ xs)) ≤ length (x ∷ xs)
    by true is rest = rw is (omega (arith, rest))
    by false is rest = rw is (omega (arith, rest))

-- ---- The cycle of a half is as long as its ring

pub cycle-length : (m : Map) (rows : HalfRows) → HasWholeRings m → IsLocal m rows → (h : Half) → IsShown m h
    → (r : Boundary) → Contains m.boundaries r → Contains (sides_of r.ring) (side_by rows h)
    → length (cycle rows h) ≡ length r.ring
cycle-length m rows whole local h shown r there has =
    sym (length-map (cycle rows h) (origin_of rows))
    ∙ IsSameRing-length r.ring (map (origin_of rows) (cycle rows h)) (cycle-same_ring m rows whole local h shown r there has)

module _ (through past : Map) (p a b : ℕ) (passing : Passing) (it : HasBetween through past p a b passing) where
  -- the two rings through the point
  record IsAt (x y : ℕ) : Type 0 where
    pub ring : Boundary
    pub there : Contains through.boundaries ring
    pub to : Contains (sides_of ring.ring) (x, p)
    pub from : Contains (sides_of ring.ring) (p, y)
    pub passed : passes p ring.ring ≡ true

  at : (x y : ℕ) → Contains (corners_in through.boundaries) (corner x p y) → IsAt x y
  at x y h =
      let part = Contains-in_part (λ (r : Boundary). corners_of r.ring) through.boundaries (corner x p y) h in
      let long = All-at_each (λ r. 2 ≤ length r.ring) through.boundaries part.0 (two-whole through it.rings) part.1 in
      let both = corner-sides part.0.ring long (corner x p y) part.2 in
      let among = Contains-filter (λ c. c.at == p) (corners_of part.0.ring) (corner x p y) part.2 (eq-eqb p p refl) in
      let low = among.1 in
      let times = through-corners p part.0.ring long in
      record {
        ring = part.0;
        there = part.1;
        to = both.0;
        from = both.1;
        passed = any-counted (λ q. q == p) part.0.ring (omega (arith, low, times));
      }

  one : IsAt a b
  one = at a b it.joined.first_there

  other : IsAt b a
  other = at b a it.joined.second_there

  apart : one.ring ≡ other.ring → ⊥
  apart same =
      one-hand through it.rings one.ring one.there (a, p) one.to
      (subst (λ (r : Boundary). Contains (sides_of r.ring) (p, a)) (sym same) other.from)

  both : length one.ring.ring + length other.ring.ring ≤ sides_through p through
  both =
      let test = λ (r : Boundary). passes p r.ring in
      two-sum (λ (r : Boundary). length r.ring) (filter test through.boundaries) one.ring other.ring
      (Contains-filter test through.boundaries one.ring one.there one.passed)
      (Contains-filter test through.boundaries other.ring other.there other.passed) apart

  -- the rings along the path
  pub path-length : (rows : HalfRows) (held : Held Half) → FitTable through rows held
      → length (cycle rows passing.first) + length (cycle rows (twin passing.second)) ≤ sides_through p through
  path-length rows held fits =
      let first = All-at_each (HasHalves rows) through.strings it.first_row fits.ends (between.first-in it) in
      let second = All-at_each (HasHalves rows) through.strings it.second_row fits.ends (between.second-in it) in
      let X = (along-side rows it.first_row passing.first (a, p) first it.first_along).1 in
      let Y = (along-side rows it.second_row passing.second (p, b) second it.second_along).1 in
      let TY : side_by rows (twin passing.second) ≡ (b, p) = twin-side rows passing.second ∙ ap (λ (s : Side). (s.1, s.0)) Y in
      let e =
      cycle-length through rows it.rings fits.local passing.first (between.first-shown it passing.first refl)
      one.ring one.there (subst (Contains (sides_of one.ring.ring)) (sym X) one.to) in
      let f =
      cycle-length through rows it.rings fits.local (twin passing.second)
      (between.second-shown it (twin passing.second) refl)
      other.ring other.there (subst (Contains (sides_of other.ring.ring)) (sym TY) other.to) in
      let all = both in
      omega (arith, e, f, all)

  -- ---- Past the point

  abbrev drop : Boundary → Boundary
  drop r = canonical_form (bounding r.face (without p r.ring))

  made-there : (r : Boundary) → Contains through.boundaries r → Contains past.boundaries (drop r)
  made-there r there =
      Contains-permutation (map drop through.boundaries) past.boundaries (drop r) it.joined.boundaries
      (Contains-map drop through.boundaries r there)

  no-longer : (r : Boundary) → length (drop r).ring ≤ length r.ring
  no-longer r =
      let same = IsSameRing-length (without p r.ring) (least_rotation (without p r.ring)) (IsSameRing-least_rotation (without p r.ring)) in
      let few = fewer (λ q. not (q == p)) r.ring in
      omega (arith, same, few)

  -- the rings along the string past it
  pub whole-length : (rows : HalfRows) (held : Held Half) → FitTable past rows held
      → length (cycle rows passing.whole) + length (cycle rows (twin passing.whole)) ≤ sides_through p through
  whole-length rows held fits =
      let whole = All-at_each (HasHalves rows) past.strings it.whole_row fits.ends (between.whole-in it) in
      let Z = (along-side rows it.whole_row passing.whole (a, b) whole it.whole_along).1 in
      let TZ : side_by rows (twin passing.whole) ≡ (b, a) = twin-side rows passing.whole ∙ ap (λ (s : Side). (s.1, s.0)) Z in
      let e =
      cycle-length past rows it.rings_past fits.local passing.whole (between.whole-shown it passing.whole refl)
      (drop one.ring) (made-there one.ring one.there)
      (subst (Contains (sides_of (drop one.ring).ring)) (sym Z)
      (rings.first-past it.joined it.rings (between.a-p it) (between.b-p it) one.ring one.there (inl one.to))) in
      let f =
      cycle-length past rows it.rings_past fits.local (twin passing.whole) (between.whole-shown it (twin passing.whole) refl)
      (drop other.ring) (made-there other.ring other.there)
      (subst (Contains (sides_of (drop other.ring).ring)) (sym TZ)
      (rings.second-past it.joined it.rings (between.a-p it) (between.b-p it) other.ring other.there (inl other.to))) in
      let g = no-longer one.ring in
      let h = no-longer other.ring in
      let all = both in
      omega (arith, e, f, g, h, all)
