-- Strings at a point of a valid map: their far ends, and the directions that they lead to.
use Rattle.std.proofs.Common.{◌≡◌, ◌≢◌, ℕ, ◌⊎◌, inl, inr, refl, sym, ap, subst, ◌∙◌, List, Option, Some, None, is_some, Bool, true, false, not, true≢false, ◌==◌}
use Rattle.std.specs.Prelude.{◌||◌, option_map, unwrap_or, IsTrue}
use Rattle.std.specs.Ordering.{int_eq}
use Rattle.std.specs.List.{AllByRecursion, Contains}
use Rattle.std.proofs.lemmas.Bool.{eqb-true, eq-eqb, and_from}
use Rattle.std.proofs.lemmas.Cmp.{int_eq_equiv}
use Rattle.geo_exact.specs.Position.{Position}
use Rattle.geo_exact.specs.Orientation.{IsSameDirection}
use Rattle.geo_exact.specs.Segment.{IsOnSegment}
use Rattle.geo_exact.specs.Sector.{in_sector, AreThreeDirections}
use Rattle.geo_exact.proofs.CallerLemmas.{HaveCommonLocation-first_turned, one_is_first}
use Rattle.cad_rows.specs.declared.rows.PointRow.{PointRow}
use Rattle.cad_rows.specs.declared.rows.StringRow.{StringRow}
use Rattle.cad_rings.specs.Cycle.{Side}
use Rattle.cad_map.specs.Map.{Map, has_point, point_of, position_of, is_end, far_end, origin}
use Rattle.cad_map.specs.Valid.{IsValid, is_same_position, LiesOnlyAsEnd}
use Rattle.cad_map.proofs.Lists.Elements.{All-at_each}
use Rattle.cad_map.proofs.Lists.ElementFacts.{EachPair-two, EachPair-from_test, find-Contains}
use Rattle.cad_map.proofs.Boundaries.FacesBeside.{IsSideOf}
use Rattle.cad_map.proofs.Ends.SameDirection.{on_segment}

-- ---- Ends

-- a string that leads from a point to another, in one of its directions
pub record Joins (s : StringRow) (p q : ℕ) : Type 0 where
  pub ends : ((s.from ≡ p) × (s.to ≡ q)) ⊎ ((s.from ≡ q) × (s.to ≡ p))

pub joins-end : (s : StringRow) (p q : ℕ) → Joins s p q → is_end s p ≡ true
joins-end s p q j = elim j.ends [
  | inl e ↦ rw (eq-eqb s.from p e.0) refl
  | inr e ↦ either (s.from == p) e.1
]
  where
    either : (b : Bool) → s.to ≡ p → (b || (s.to == p)) ≡ true
    either true e = refl
    either false e = eq-eqb s.to p e

pub joins-far_end : (s : StringRow) (p q : ℕ) → p ≢ q → Joins s p q → far_end s p ≡ q
joins-far_end s p q apart j = elim j.ends [
  | inl e ↦ rw (eq-eqb s.from p e.0) e.1
  | inr e ↦ other (s.from == p) refl e.0
]
  where
    other : (b : Bool) → (s.from == p) ≡ b → s.from ≡ q → far_end s p ≡ q
    other true is e = absurd (apart (sym (eqb-true s.from p is) ∙ e))
    other false is e = rw is e

-- a string at a point leads from it to its far end
pub joins-far : (s : StringRow) (p : ℕ) → is_end s p ≡ true → Joins s p (far_end s p)
joins-far s p h = by (s.from == p) refl h
  where
    by : (b : Bool) → (s.from == p) ≡ b → (b || (s.to == p)) ≡ true → Joins s p (far_end s p)
    by true is end = record { ends = inl (eqb-true s.from p is, rw is refl) }
    by false is end = record { ends = inr (rw is refl, eqb-true s.to p end) }

pub side-joins : (s : Side) (strings : List StringRow) → (k : IsSideOf s strings) → Joins k.string s.0 s.1
side-joins s strings k = elim k.is [
  | inl e ↦ record { ends = inl (ap (λ (t : Side). t.0) (sym e), ap (λ (t : Side). t.1) (sym e)) }
  | inr e ↦ record { ends = inr (ap (λ (t : Side). t.1) (sym e), ap (λ (t : Side). t.0) (sym e)) }
]

-- ---- Points and their positions

-- a row of the point
record HasRow (m : Map) (p : ℕ) : Type 0 where
  row : PointRow
  there : Contains m.points row
  number : row.number ≡ p
  position : position_of m p ≡ row.position

row_of : (m : Map) (p : ℕ) → IsTrue (has_point m p) → HasRow m p
row_of m p known = by (point_of m p) refl known
  where
    by : (o : Option PointRow) → point_of m p ≡ o → is_some o ≡ true → HasRow m p
    by None is some = absurd (true≢false (sym some))
    by (Some row) is some =
        let found = find-Contains (λ (r : PointRow). r.number == p) m.points row is in
        record { row = row; there = found.0; number = eqb-true row.number p found.1; position = ap (λ (o : Option PointRow). unwrap_or (option_map (λ r. r.position) o) origin) is }

pub same_position : (a b : Position) → a ≡ b → is_same_position a b ≡ true
same_position a b e = rw (sym e) (and_from (int_eq a.x a.x) (int_eq a.y a.y) (int_eq_equiv.refl a.x) (int_eq_equiv.refl a.y))

not-true : (b : Bool) → not b ≡ true → b ≡ true → ⊥
not-true true h k = true≢false (sym h)
not-true false h k = true≢false (sym k)

module _ (m : Map) (valid : IsValid m) where
  -- two points have two positions
  pub positions_differ : (p q : ℕ) → IsTrue (has_point m p) → IsTrue (has_point m q) → p ≢ q → ¬ (position_of m p ≡ position_of m q)
  positions_differ p q p_in q_in apart same =
      let a = row_of m p p_in in
      let b = row_of m q q_in in
      let here : a.row.position ≡ b.row.position = sym a.position ∙ same ∙ b.position in
      let pairs = EachPair-from_test (λ (r t : PointRow). not (is_same_position r.position t.position)) m.points valid.keeps.v3 in
      elim (EachPair-two (λ (r t : PointRow). not (is_same_position r.position t.position) ≡ true) m.points a.row b.row pairs a.there b.there) [
        | inl e ↦ apart (sym a.number ∙ ap (λ (r : PointRow). r.number) e ∙ b.number)
        | inr either ↦ elim either [
          | inl h ↦ not-true _ h (same_position a.row.position b.row.position here)
          | inr h ↦ not-true _ h (same_position b.row.position a.row.position (sym here))
        ]
      ]

  -- a point on the way along a string is one of its ends
  on_string : (s : StringRow) (p q r : ℕ) → Contains m.strings s → Joins s p q → IsTrue (has_point m r) → IsOnSegment (position_of m p) (position_of m q) (position_of m r) → (r ≡ p) ⊎ (r ≡ q)
  on_string s p q r there j known on =
      let row = row_of m r known in
      let at = row.row.position in
      let points = All-at_each (λ p. AllByRecursion (LiesOnlyAsEnd m p) m.strings) m.points row.row valid.keeps.v4.points row.there in
      let lies = All-at_each (LiesOnlyAsEnd m row.row) m.strings s points there in
      let here : IsOnSegment (position_of m p) (position_of m q) at = subst (IsOnSegment (position_of m p) (position_of m q)) row.position on in
      elim j.ends [
        | inl e ↦ elim (lies (subst (λ (k : ℕ × ℕ). IsOnSegment (position_of m k.0) (position_of m k.1) at) (λ i. (sym e.0 i, sym e.1 i)) here)) [
          | inl f ↦ inl (sym row.number ∙ sym f ∙ e.0)
          | inr f ↦ inr (sym row.number ∙ sym f ∙ e.1)
        ]
        | inr e ↦ elim (lies (HaveCommonLocation-first_turned (position_of m s.from) (position_of m s.to) at at (subst (λ (k : ℕ × ℕ). IsOnSegment (position_of m k.0) (position_of m k.1) at) (λ i. (sym e.1 i, sym e.0 i)) here))) [
          | inl f ↦ inr (sym row.number ∙ sym f ∙ e.0)
          | inr f ↦ inl (sym row.number ∙ sym f ∙ e.1)
        ]
      ]

  -- the ends of a string
  pub record IsString (s : StringRow) (p q : ℕ) : Type 0 where
    pub there : Contains m.strings s
    pub joins : Joins s p q

  both_in : (s : StringRow) (p q : ℕ) → IsString s p q → IsTrue (has_point m p) × IsTrue (has_point m q)
  both_in s p q k =
      let ends = All-at_each (λ s. IsTrue (has_point m s.from) × IsTrue (has_point m s.to)) m.strings s valid.sound.v1.ends k.there in
      elim k.joins.ends [
        | inl e ↦ (subst (λ (r : ℕ). IsTrue (has_point m r)) e.0 ends.0, subst (λ (r : ℕ). IsTrue (has_point m r)) e.1 ends.1)
        | inr e ↦ (subst (λ (r : ℕ). IsTrue (has_point m r)) e.1 ends.1, subst (λ (r : ℕ). IsTrue (has_point m r)) e.0 ends.0)
      ]

  pub two_ends : (s : StringRow) (p q : ℕ) → IsString s p q → p ≢ q
  two_ends s p q k same =
      let two = All-at_each (λ s. s.from ≢ s.to) m.strings s valid.sound.v2 k.there in
      elim k.joins.ends [ inl e ↦ two (e.0 ∙ same ∙ sym e.1) | inr e ↦ two (e.0 ∙ sym same ∙ sym e.1) ]

  -- strings to different points lead into different directions
  pub directions_differ : (s t : StringRow) (v a b : ℕ) → IsString s v a → IsString t v b → a ≢ b → ¬ IsSameDirection (position_of m v) (position_of m a) (position_of m b)
  directions_differ s t v a b first second apart same = elim (on_segment (position_of m v) (position_of m a) (position_of m b) same) [
    | inl on ↦ elim (on_string s v a b first.there first.joins (both_in t v b second).1 on) [
      | inl e ↦ two_ends t v b second (sym e)
      | inr e ↦ apart (sym e)
    ]
    | inr on ↦ elim (on_string t v b a second.there second.joins (both_in s v a first).1 on) [
      | inl e ↦ two_ends s v a first (sym e)
      | inr e ↦ apart e
    ]
  ]

  pub end_away : (s : StringRow) (v a : ℕ) → IsString s v a → ¬ (position_of m a ≡ position_of m v)
  end_away s v a k = positions_differ a v (both_in s v a k).1 (both_in s v a k).0 (λ e. two_ends s v a k (sym e))

  -- strings to three points lead into three directions
  pub three_directions : (s t r : StringRow) (v a b w : ℕ) → IsString s v a → IsString t v b → IsString r v w → a ≢ b → a ≢ w → w ≢ b
      → AreThreeDirections (position_of m v) (position_of m a) (position_of m b) (position_of m w)
  three_directions s t r v a b w ks kt kr ab aw wb = record {
    n_away = end_away s v a ks;
    p_away = end_away t v b kt;
    w_away = end_away r v w kr;
    n_from_p = directions_differ s t v a b ks kt ab;
    n_from_w = directions_differ s r v a w ks kr aw;
    w_from_p = directions_differ r t v w b kr kt wb;
  }

  -- of three strings at a point, one isn't met before another exactly where the other is met before it
  pub first_met : (s t r : StringRow) (v a b w : ℕ) → IsString s v a → IsString t v b → IsString r v w → a ≢ b → a ≢ w → w ≢ b
      → in_sector (position_of m v) (position_of m a) (position_of m b) (position_of m w) ≡ not (in_sector (position_of m v) (position_of m w) (position_of m b) (position_of m a))
  first_met s t r v a b w ks kt kr ab aw wb =
      one_is_first (position_of m v) (position_of m a) (position_of m b) (position_of m w) (three_directions s t r v a b w ks kt kr ab aw wb)
