-- Where the corners at touched points and at the ends of touched strings are empty, all are.
use Rattle.std.proofs.Common.{◌≡◌, ℕ, refl, sym, ap, subst, ◌∙◌, Option, Some, None, Bool, true, false, true≢false, not, ◌⊎◌, inl, inr, eqb-true, eq-eqb}
use Rattle.std.proofs.lemmas.Bool.{and_parts, eqb-false}
use Rattle.std.proofs.lemmas.List.Sorted.{Contains-permutation, IsPermutation-sym}
use Rattle.std.specs.Prelude.{IsTrue, ◌↔◌, is_some, ◌==◌, ◌||◌, if◌then◌else◌}
use Rattle.std.specs.List.{AllByRecursion, Contains}
use Rattle.geo_exact.specs.Sector.{in_sector}
use Rattle.cad_rows.specs.declared.rows.PointRow.{PointRow}
use Rattle.cad_rows.specs.declared.rows.StringRow.{StringRow}
use Rattle.cad_rings.specs.Cycle.{Corner, is_side}
use Rattle.cad_map.specs.Map.{Map, has_point, point_of, position_of, all_corners, all_sides, string_sides, strings_at, is_end, far_end}
use Rattle.cad_map.specs.Rings.{HasWholeRings}
use Rattle.cad_map.specs.Valid.{IsValid, is_empty_corner, has_empty_corners}
use Rattle.cad_map.specs.Touched.{Touched, IsTouched, PointStands, StringStands}
use Rattle.cad_map.proofs.CallerLemmas.{All-at_each, All-from_each, find-Contains, list_all-at, list_all-from, filter-Contains, Contains-filter, corner-points, corner-all_sides, ends as ends_with, is_end-of, Joins, side-joins, string_side}
use Rattle.geo_exact.specs.Segment.{HaveCommonLocation, IsOnSegment}
use Rattle.geo_exact.proofs.CallerLemmas.{HaveCommonLocation-exchanged, IsOnSegment-first, IsOnSegment-last}
use Rattle.cad_valid.specs.Corners.{corner_after, is_empty_after}
use Rattle.cad_near.proofs.RowsByNumber.{row-found_is}
use Rattle.cad_valid.proofs.CallerLemmas.{empty-after}
use Rattle.cad_near.specs.Near.{OfString, HasEmptyCornersAt, HasEmptyEnds, IsEmptyBeyond}

pub joins-turned : (s : StringRow) (a b : ℕ) → Joins s a b → Joins s b a
joins-turned s a b j = record { ends = elim j.ends [ inl e ↦ inr e | inr e ↦ inl e ] }

-- a string between two points
pub record IsBetween (m : Map) (a b : ℕ) : Type 0 where
  pub string : StringRow
  pub there : Contains m.strings string
  pub joins : Joins string a b

pub string-of_side : (m : Map) → HasWholeRings m → (a b : ℕ) → Contains (all_sides m) (a, b) → IsBetween m a b
string-of_side m whole a b h =
    let k = string_side m (a, b) (Contains-permutation (all_sides m) (string_sides m) (a, b) (IsPermutation-sym (string_sides m) (all_sides m) whole.v5.once) h) in
    record { string = k.string; there = k.there; joins = side-joins (a, b) m.strings k }

either : {A B C D : Type 0} → (A × B) ⊎ (C × D) → A ⊎ C
either (inl h) = inl h.0
either (inr h) = inr h.0

-- ---- The corners at one point

module _ (m : Map) (whole : HasWholeRings m) where
  -- the other end of a string between two points
  pub far-between : (a b : ℕ) → (between : IsBetween m a b) → (is_end between.string b ≡ true) × (far_end between.string b ≡ a)
  far-between a b between = elim between.joins.ends [
    | inl e ↦ (is_end-of between.string b (inr e.1), by (between.string.from == b) refl (λ is. e.1 ∙ sym is ∙ e.0) (λ _. e.0))
    | inr e ↦ (is_end-of between.string b (inl e.0), by (between.string.from == b) refl (λ _. e.1) (λ no_end. absurd (no_end e.0)))
  ]
    where
      by : (yes : Bool) → (between.string.from == b) ≡ yes → (between.string.from ≡ b → between.string.to ≡ a) → (¬ (between.string.from ≡ b) → between.string.from ≡ a)
          → (if yes then between.string.to else between.string.from) ≡ a
      by true is to from = to (eqb-true between.string.from b is)
      by false is to from = from (eqb-false between.string.from b is)

  -- a corner comes after a side of one of its point's strings
  empty-by_string : (c : Corner) → Contains (all_corners m) c → ((s : StringRow) → Contains m.strings s → IsEmptyBeyond m c.at s) → IsTrue (is_empty_corner m c)
  empty-by_string c h beyond =
      let between = string-of_side m whole c.before c.at (corner-all_sides m whole c h).0 in
      let far = far-between c.before c.at between in
      sym (empty-after m whole c h) ∙ subst (λ (q : ℕ). IsTrue (is_empty_after m (q, c.at))) far.1 (beyond between.string between.there far.0)

  -- and where a string has a corner after it, that is one of the point's
  beyond-string : (p : ℕ) → HasEmptyCornersAt m p → (s : StringRow) → IsEmptyBeyond m p s
  beyond-string p empty s end = by (corner_after m (far_end s p, p)) refl
    where
      by : (o : Option Corner) → corner_after m (far_end s p, p) ≡ o → IsTrue (is_empty_after m (far_end s p, p))
      by None is = rw is refl
      by (Some c) is =
          let found = find-Contains (λ c. is_side (far_end s p, p) (c.before, c.at)) (all_corners m) c is in
          rw is (empty c found.0 (sym (eqb-true p c.at (and_parts (far_end s p == c.before) (p == c.at) found.1).1)))

  pub corners-by_strings : (p : ℕ) → ((s : StringRow) → Contains m.strings s → IsEmptyBeyond m p s) ↔ HasEmptyCornersAt m p
  corners-by_strings p = (
    (λ beyond c h at. empty-by_string c h (subst (λ (q : ℕ). (s : StringRow) → Contains m.strings s → IsEmptyBeyond m q s) (sym at) beyond)),
    (λ empty s _. beyond-string p empty s),
  )

-- the row that a number finds is found by its own number
pub number-is : (m : Map) (p : ℕ) (row : PointRow) → point_of m p ≡ Some row → row.number ≡ p
number-is m p row found = (row-found_is (λ (r : PointRow). r.number) m.points p row found).1

pub number-of : (m : Map) (p : ℕ) (row : PointRow) → point_of m p ≡ Some row → point_of m row.number ≡ Some row
number-of m p row found = ap (point_of m) (number-is m p row found) ∙ found

pub position-there : (m : Map) (row : PointRow) → point_of m row.number ≡ Some row → position_of m row.number ≡ row.position
position-there m row found = rw found refl

-- no corner is at what is no point
pub no-corner : (m : Map) → HasWholeRings m → (p : ℕ) → point_of m p ≡ None → IsTrue true ↔ HasEmptyCornersAt m p
no-corner m whole p none = (
  (λ t c h at. absurd (true≢false (sym (corner-points m whole c h).1 ∙ ap (has_point m) at ∙ ap is_some none))),
  (λ empty. refl),
)

-- a string has its end's position in common with it
pub meets-end : (m : Map) (s : StringRow) (p : ℕ) → is_end s p ≡ true → HaveCommonLocation (position_of m p) (position_of m p) (position_of m s.from) (position_of m s.to)
meets-end m s p end = elim (ends_with s p end) [
  | inl e ↦ HaveCommonLocation-exchanged (position_of m p) (position_of m p) (position_of m s.from) (position_of m s.to)
      (subst (λ (q : ℕ). IsOnSegment (position_of m s.from) (position_of m s.to) (position_of m q)) e.0 (IsOnSegment-first (position_of m s.from) (position_of m s.to)))
  | inr e ↦ HaveCommonLocation-exchanged (position_of m p) (position_of m p) (position_of m s.from) (position_of m s.to)
      (subst (λ (q : ℕ). IsOnSegment (position_of m s.from) (position_of m s.to) (position_of m q)) e.0 (IsOnSegment-last (position_of m s.from) (position_of m s.to)))
]

-- ---- All corners

module _ (old new : Map) (t : Touched) (valid : IsValid old) (whole : HasWholeRings new) (touched : IsTouched old new t)
    (at_points : AllByRecursion (HasEmptyCornersAt new) t.points) (at_ends : AllByRecursion (OfString new (HasEmptyEnds new)) t.strings) where
  named_or : (s : StringRow) → Contains new.strings s → Contains t.strings s.number ⊎ StringStands old new s
  named_or s h = All-at_each (λ s. Contains t.strings s.number ⊎ StringStands old new s) new.strings s touched.strings h

  module _ (c : Corner) (h : Contains (all_corners new) c) where
    -- a touched string ends at the corner's point
    by_string : (s : StringRow) → Contains new.strings s → (s.from ≡ c.at) ⊎ (s.to ≡ c.at) → Contains t.strings s.number → IsTrue (is_empty_corner new c)
    unfolding OfString
    by_string s there (inl e) named = (All-at_each (OfString new (HasEmptyEnds new)) t.strings s.number at_ends named s there refl).from c h (sym e)
    by_string s there (inr e) named = (All-at_each (OfString new (HasEmptyEnds new)) t.strings s.number at_ends named s there refl).to c h (sym e)

    -- the corner is empty, or the far point of this string stands
    beside : (a : ℕ) → IsBetween new a c.at → IsTrue (is_empty_corner new c) ⊎ (position_of new a ≡ position_of old a)
    beside a b = elim (named_or b.string b.there) [
      | inl named ↦ elim b.joins.ends [ inl e ↦ inl (by_string b.string b.there (inr e.1) named) | inr e ↦ inl (by_string b.string b.there (inl e.0) named) ]
      | inr s ↦ elim b.joins.ends [
        | inl e ↦ inr (subst (λ (q : ℕ). position_of new q ≡ position_of old q) e.0 s.from_position)
        | inr e ↦ inr (subst (λ (q : ℕ). position_of new q ≡ position_of old q) e.1 s.to_position)
      ]
    ]

    far-position : (s : StringRow) (a : StringStands old new s) (p : ℕ) → position_of new (far_end s p) ≡ position_of old (far_end a.before p)
    far-position s a p = of (s.from == p) ∙ (λ i. position_of old (if sym a.from i == p then sym a.to i else sym a.from i))
      where
        of : (b : Bool) → position_of new (if b then s.to else s.from) ≡ position_of old (if b then s.to else s.from)
        of true = a.to_position
        of false = a.from_position

    end-before : (s : StringRow) (a : StringStands old new s) (p : ℕ) → is_end s p ≡ true → is_end a.before p ≡ true
    end-before s a p e = (λ i. (a.from i == p) || (a.to i == p)) ∙ e

    stands : PointStands old new c.at → position_of new c.before ≡ position_of old c.before → position_of new c.after ≡ position_of old c.after → IsTrue (is_empty_corner new c)
    stands p at_before at_after = list_all-from (λ s. not (in_sector (position_of new c.at) (position_of new c.after) (position_of new c.before) (position_of new (far_end s c.at)))) (strings_at new c.at) (λ s k.
        let f = filter-Contains (λ s. is_end s c.at) new.strings s k in
        elim (named_or s f.0) [
          | inl named ↦ list_all-at (λ s. not (in_sector (position_of new c.at) (position_of new c.after) (position_of new c.before) (position_of new (far_end s c.at)))) (strings_at new c.at) s (by_string s f.0 (either (ends_with s c.at f.1)) named) k
          | inr a ↦
              let stood = (p.corners c).0 (Contains-filter (λ c'. c'.at == c.at) (all_corners new) c h (eq-eqb c.at c.at refl)) in
              let in_old = (filter-Contains (λ c'. c'.at == c.at) (all_corners old) c stood).0 in
              let empty = list_all-at (is_empty_corner old) (all_corners old) c valid.keeps.v6 in_old in
              let beyond = Contains-filter (λ s. is_end s c.at) old.strings a.before a.there (end-before s a c.at f.1) in
              (λ i. not (in_sector (p.position i) (at_after i) (at_before i) (far-position s a c.at i)))
              ∙ list_all-at (λ s. not (in_sector (position_of old c.at) (position_of old c.after) (position_of old c.before) (position_of old (far_end s c.at)))) (strings_at old c.at) a.before empty beyond
        ])

    pub corner-empty : IsTrue (is_empty_corner new c)
    corner-empty = elim (touched.points c.at (corner-points new whole c h).1) [
      | inl named ↦ All-at_each (HasEmptyCornersAt new) t.points c.at at_points named c h refl
      | inr p ↦ elim (beside c.before (string-of_side new whole c.before c.at (corner-all_sides new whole c h).0)) [
        | inl empty ↦ empty
        | inr at_before ↦ elim (beside c.after (turned (string-of_side new whole c.at c.after (corner-all_sides new whole c h).1))) [
          | inl empty ↦ empty
          | inr at_after ↦ stands p at_before at_after
        ]
      ]
    ]
      where
        turned : IsBetween new c.at c.after → IsBetween new c.after c.at
        turned b = record { string = b.string; there = b.there; joins = joins-turned b.string c.at c.after b.joins }

pub near-corners : (old new : Map) (t : Touched) → IsValid old → HasWholeRings new → IsTouched old new t → AllByRecursion (HasEmptyCornersAt new) t.points × AllByRecursion (OfString new (HasEmptyEnds new)) t.strings ↔ IsTrue (has_empty_corners new)
unfolding OfString
near-corners old new t valid whole touched = (
  (λ tests. list_all-from (is_empty_corner new) (all_corners new) (λ c h. corner-empty old new t valid whole touched tests.0 tests.1 c h)),
  (λ v6. (
    All-from_each (HasEmptyCornersAt new) t.points (λ p _ c h is. list_all-at (is_empty_corner new) (all_corners new) c v6 h),
    All-from_each (OfString new (HasEmptyEnds new)) t.strings (λ n _ s hs is. record {
      from = λ c h e. list_all-at (is_empty_corner new) (all_corners new) c v6 h;
      to = λ c h e. list_all-at (is_empty_corner new) (all_corners new) c v6 h;
    }),
  )),
)
