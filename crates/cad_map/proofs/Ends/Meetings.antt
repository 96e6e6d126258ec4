-- Ends of strings, positions of points, and where two strings meet.
use Rattle.std.proofs.Common.{◌≡◌, ◌≢◌, ℕ, ◌<◌, refl, sym, ap, subst, ◌∙◌, List, [], ◌∷◌, find, Bool, true, false, not, Some, is_some, eqb, slice_get, inl, inr}
use Rattle.std.specs.Prelude.{◌↔◌, ◌⊎◌, ◌||◌, IsTrue, option_map, unwrap_or}
use Rattle.std.specs.Ordering.{int_eq}
use Rattle.std.specs.List.{AllByRecursion, list_all}
use Rattle.std.proofs.lemmas.Bool.{true≢false, eqb-true, eqb-false, eq-eqb, and_parts, and_from}
use Rattle.std.proofs.lemmas.Cmp.{int_eq_equiv}
use Rattle.geo_exact.specs.Position.{Position}
use Rattle.geo_exact.specs.Segment.{location}
use Rattle.geo_exact.proofs.CallerLemmas.{half_way}
use Rattle.cad_rows.specs.declared.rows.PointRow.{PointRow}
use Rattle.cad_rows.specs.declared.rows.StringRow.{StringRow}
use Rattle.cad_map.specs.Map.{Map, has_point, position_of, is_end, far_end, origin}
use Rattle.cad_map.specs.Valid.{is_same_position, each_pair, MeetAtEnds, HaveCommon}
use Rattle.cad_map.specs.Crossings.{HasPlacedRows, HasTwoPoints, IsEndOfBoth, HaveOnlyStart}
use Rattle.cad_map.proofs.Lists.EachElement.{all-at}
use Rattle.cad_map.proofs.Ends.SharedEnds.{IsAlong, along-turned, times, on_first, on_second, common_at}

-- ---- Ends of strings

-- an end of a string and its far end are its ends, as ordered or exchanged
pub ends : (s : StringRow) (p : ℕ) → is_end s p ≡ true → ((s.from ≡ p) × (s.to ≡ far_end s p)) ⊎ ((s.to ≡ p) × (s.from ≡ far_end s p))
ends s p h = by (eqb s.from p) refl h
  where
    by : (b : Bool) → eqb s.from p ≡ b → (b || eqb s.to p) ≡ true → ((s.from ≡ p) × (s.to ≡ far_end s p)) ⊎ ((s.to ≡ p) × (s.from ≡ far_end s p))
    by true is end = inl (eqb-true s.from p is, rw is refl)
    by false is end = inr (eqb-true s.to p end, rw is refl)

pub is_end-from : (s : StringRow) → is_end s s.from ≡ true
is_end-from s = rw (eq-eqb s.from s.from refl) refl

pub far_end-from : (s : StringRow) → far_end s s.from ≡ s.to
far_end-from s = rw (eq-eqb s.from s.from refl) refl

pub is_end-of : (s : StringRow) (p : ℕ) → (s.from ≡ p) ⊎ (s.to ≡ p) → is_end s p ≡ true
is_end-of s p h = by (eqb s.from p) refl h
  where
    by : (b : Bool) → eqb s.from p ≡ b → (s.from ≡ p) ⊎ (s.to ≡ p) → (eqb s.from p || eqb s.to p) ≡ true
    by true is end = rw is refl
    by false is end = elim end [ inl e ↦ absurd (eqb-false s.from p is e) | inr e ↦ rw (is, eq-eqb s.to p e) refl ]

-- a string has no third end
pub other_end : (s : StringRow) (p q : ℕ) → is_end s p ≡ true → is_end s q ≡ true → (q ≡ p) ⊎ (q ≡ far_end s p)
other_end s p q hp hq = elim (ends s p hp) [
  | inl e ↦ elim (ends s q hq) [ inl f ↦ inl (sym f.0 ∙ e.0) | inr f ↦ inr (sym f.0 ∙ e.1) ]
  | inr e ↦ elim (ends s q hq) [ inl f ↦ inr (sym f.0 ∙ e.1) | inr f ↦ inl (sym f.0 ∙ e.0) ]
]

module _ (m : Map) (s : StringRow) (placed : HasTwoPoints m s) (p : ℕ) (end : is_end s p ≡ true) where
  end-in : IsTrue (has_point m p)
  end-in = elim (ends s p end) [
    | inl e ↦ subst (λ (q : ℕ). IsTrue (has_point m q)) e.0 placed.from_in
    | inr e ↦ subst (λ (q : ℕ). IsTrue (has_point m q)) e.0 placed.to_in
  ]

  pub far_end-in : IsTrue (has_point m (far_end s p))
  far_end-in = elim (ends s p end) [
    | inl e ↦ subst (λ (q : ℕ). IsTrue (has_point m q)) e.1 placed.to_in
    | inr e ↦ subst (λ (q : ℕ). IsTrue (has_point m q)) e.1 placed.from_in
  ]

  far_end-differs : far_end s p ≢ p
  far_end-differs same = elim (ends s p end) [
    | inl e ↦ placed.two (e.0 ∙ sym same ∙ sym e.1)
    | inr e ↦ placed.two (e.1 ∙ same ∙ sym e.0)
  ]

-- ---- Positions of points

abbrev place_in : List PointRow → ℕ → Position
place_in rows p = unwrap_or (option_map (λ (r : PointRow). r.position) (find (λ (r : PointRow). eqb r.number p) rows)) origin

-- the test of V3 on two rows
abbrev differ : PointRow → PointRow → Bool
differ a b = not (is_same_position a.position b.position)

differ-positions : (a b : PointRow) → differ a b ≡ true → ¬ (a.position ≡ b.position)
differ-positions a b h e = absurd (true≢false (sym h ∙ ap not (ap (λ (q : Position). is_same_position a.position q) (sym e) ∙ itself a.position)))
  where
    itself : (q : Position) → is_same_position q q ≡ true
    itself q = and_from (int_eq q.x q.x) (int_eq q.y q.y) (int_eq_equiv.refl q.x) (int_eq_equiv.refl q.y)

-- a row apart from all of these, and the point that one of these has
apart : (r : PointRow) (rows : List PointRow) (q : ℕ) → list_all (differ r) rows ≡ true → is_some (find (λ (t : PointRow). eqb t.number q) rows) ≡ true → ¬ (r.position ≡ place_in rows q)
apart r [] q all there = absurd (true≢false (sym there))
apart r (t ∷ rows) q all there = by (eqb t.number q) refl there (λ h. apart r rows q both.1 h)
  where
    both : (differ r t ≡ true) × (list_all (differ r) rows ≡ true)
    both = and_parts (differ r t) (list_all (differ r) rows) all

    by : (b : Bool) → eqb t.number q ≡ b → is_some (find (λ (t : PointRow). eqb t.number q) (t ∷ rows)) ≡ true
        → (is_some (find (λ (t : PointRow). eqb t.number q) rows) ≡ true → ¬ (r.position ≡ place_in rows q)) → ¬ (r.position ≡ place_in (t ∷ rows) q)
    by true is some rest = rw is (λ e. differ-positions r t both.0 e)
    by false is some rest = rw is (rest (rw is at some))

-- points with different numbers have different positions
apart-points : (rows : List PointRow) (p q : ℕ) → p ≢ q → each_pair differ rows ≡ true
    → is_some (find (λ (r : PointRow). eqb r.number p) rows) ≡ true → is_some (find (λ (r : PointRow). eqb r.number q) rows) ≡ true → ¬ (place_in rows p ≡ place_in rows q)
apart-points [] p q ne pairs p_in q_in = absurd (true≢false (sym p_in))
apart-points (r ∷ rows) p q ne pairs p_in q_in = by (eqb r.number p) (eqb r.number q) refl refl p_in q_in (λ h k. apart-points rows p q ne both.1 h k)
  where
    both : (list_all (differ r) rows ≡ true) × (each_pair differ rows ≡ true)
    both = and_parts (list_all (differ r) rows) (each_pair differ rows) pairs

    by : (b d : Bool) → eqb r.number p ≡ b → eqb r.number q ≡ d → is_some (find (λ (t : PointRow). eqb t.number p) (r ∷ rows)) ≡ true → is_some (find (λ (t : PointRow). eqb t.number q) (r ∷ rows)) ≡ true
        → (is_some (find (λ (t : PointRow). eqb t.number p) rows) ≡ true → is_some (find (λ (t : PointRow). eqb t.number q) rows) ≡ true → ¬ (place_in rows p ≡ place_in rows q))
        → ¬ (place_in (r ∷ rows) p ≡ place_in (r ∷ rows) q)
    by true true is_p is_q p_some q_some rest = absurd (ne (sym (eqb-true r.number p is_p) ∙ eqb-true r.number q is_q))
    by true false is_p is_q p_some q_some rest = rw (is_p, is_q) (apart r rows q both.0 (rw is_q at q_some))
    by false true is_p is_q p_some q_some rest = rw (is_p, is_q) (λ e. apart r rows p both.0 (rw is_p at p_some) (sym e))
    by false false is_p is_q p_some q_some rest = rw (is_p, is_q) (rest (rw is_p at p_some) (rw is_q at q_some))

module _ (m : Map) (rows : HasPlacedRows m) where
  pub positions-differ : (p q : ℕ) → IsTrue (has_point m p) → IsTrue (has_point m q) → p ≢ q → ¬ (position_of m p ≡ position_of m q)
  positions-differ p q p_in q_in ne = apart-points m.points p q ne rows.v3 p_in q_in

  pub all-placed : AllByRecursion (HasTwoPoints m) m.strings
  all-placed = both m.strings rows.v1.ends rows.v2
    where
      both : (strings : List StringRow) → AllByRecursion (λ s. IsTrue (has_point m s.from) × IsTrue (has_point m s.to)) strings → AllByRecursion (λ s. s.from ≢ s.to) strings → AllByRecursion (HasTwoPoints m) strings
      both [] ends two = tt
      both (s ∷ strings) ends two = (record { from_in = ends.0.0; to_in = ends.0.1; two = two.0 }, both strings ends.1 two.1)

  pub placed-at : (i : ℕ) (s : StringRow) → slice_get m.strings i ≡ Some s → HasTwoPoints m s
  placed-at i s at = all-at (HasTwoPoints m) m.strings i s at all-placed

  pub far_end-away : (s : StringRow) → HasTwoPoints m s → (p : ℕ) → is_end s p ≡ true → ¬ (position_of m (far_end s p) ≡ position_of m p)
  far_end-away s placed p end = positions-differ (far_end s p) p (far_end-in m s placed p end) (end-in m s placed p end) (far_end-differs m s placed p end)

-- ---- Where two strings meet

-- a string's locations, as those of the segment from one of its ends to the other
module _ (m : Map) (s : StringRow) (p : ℕ) (end : is_end s p ≡ true) (n : ℕ) (l : Position) where
  abbrev between : ℕ × ℕ → Type 0
  between q = IsAlong n (position_of m q.0) (position_of m q.1) l

  from_end : between (s.from, s.to) → between (p, far_end s p)
  from_end along = elim (ends s p end) [
    | inl e ↦ subst between (λ i. (e.0 i, e.1 i)) along
    | inr e ↦ subst between (λ i. (e.0 i, e.1 i)) (along-turned n (position_of m s.from) (position_of m s.to) l along)
  ]

  to_end : between (p, far_end s p) → between (s.from, s.to)
  to_end along = elim (ends s p end) [
    | inl e ↦ subst between (λ i. (sym e.0 i, sym e.1 i)) along
    | inr e ↦ along-turned n (position_of m s.to) (position_of m s.from) l (subst between (λ i. (sym e.0 i, sym e.1 i)) along)
  ]

module _ (m : Map) (s t : StringRow) where
  abbrev at_point : ℕ → ℕ → Position
  at_point n p = location n (position_of m p) 0 (position_of m p)

  -- the point at a common location of strings that meet at ends alone
  meeting : MeetAtEnds m s t → (n : ℕ) (l : Position) → 0 < n → IsAlong n (position_of m s.from) (position_of m s.to) l → IsAlong n (position_of m t.from) (position_of m t.to) l
      → (p : ℕ) × IsEndOfBoth s t p × (l ≡ at_point n p)
  meeting meet n l some first second =
      let shared = meet (common_at (position_of m s.from) (position_of m s.to) (position_of m t.from) (position_of m t.to) n l some first second) in
      (shared.0, record { of_first = is_end-of s shared.0 shared.1.of_first; of_second = is_end-of t shared.0 shared.1.of_second }, sym first.is ∙ shared.1.there)

  -- with no end in common
  pub meet-no_end : ((p : ℕ) → ¬ IsEndOfBoth s t p) → (¬ HaveCommon m s t) ↔ MeetAtEnds m s t
  meet-no_end none = (
    (λ no common. absurd (no common)),
    (λ meet common.
        let shared = meet common in
        none shared.0 (record { of_first = is_end-of s shared.0 shared.1.of_first; of_second = is_end-of t shared.0 shared.1.of_second })),
  )

  module _ (p : ℕ) (both : IsEndOfBoth s t p) where
    abbrev start : Position
    start = position_of m p

    abbrev first_end : Position
    first_end = position_of m (far_end s p)

    abbrev second_end : Position
    second_end = position_of m (far_end t p)

    -- two strings with both ends in common meet half-way
    pub twins : ¬ (start ≡ first_end) → far_end s p ≡ far_end t p → ¬ MeetAtEnds m s t
    twins apart same meet =
        let half = half_way start first_end apart in
        let n = half.0.n in
        let l = times start first_end start first_end half.0 in
        let along = on_first start first_end start first_end half.0 in
        let found = meeting meet n l half.0.some (to_end m s p both.of_first n l along) (to_end m t p both.of_second n l (subst (λ (q : ℕ). IsAlong n start (position_of m q) l) same along)) in
        elim (other_end s p found.0 both.of_first found.1.of_first) [
          | inl e ↦ half.1.not_first (found.2 ∙ ap (at_point n) e)
          | inr e ↦ half.1.not_last (found.2 ∙ ap (at_point n) e)
        ]

    only_start-from_meet : ¬ (start ≡ first_end) → MeetAtEnds m s t → HaveOnlyStart start first_end second_end
    only_start-from_meet apart meet common =
        let n = common.n in
        let l = times start first_end start second_end common in
        let found = meeting meet n l common.some (to_end m s p both.of_first n l (on_first start first_end start second_end common)) (to_end m t p both.of_second n l (on_second start first_end start second_end common)) in
        found.2 ∙ ap (at_point n) (elim (other_end s p found.0 both.of_first found.1.of_first) [
          | inl e ↦ e
          | inr e ↦ elim (other_end t p found.0 both.of_second found.1.of_second) [
            | inl f ↦ f
            | inr f ↦ absurd (twins apart (sym e ∙ f) meet)
          ]
        ])

    meet-from_only_start : HaveOnlyStart start first_end second_end → MeetAtEnds m s t
    meet-from_only_start only common =
        let n = common.n in
        let l = times (position_of m s.from) (position_of m s.to) (position_of m t.from) (position_of m t.to) common in
        let first = from_end m s p both.of_first n l (on_first (position_of m s.from) (position_of m s.to) (position_of m t.from) (position_of m t.to) common) in
        let second = from_end m t p both.of_second n l (on_second (position_of m s.from) (position_of m s.to) (position_of m t.from) (position_of m t.to) common) in (
          p,
          record {
            of_first = which s both.of_first;
            of_second = which t both.of_second;
            there = sym first.is ∙ only (common_at start first_end start second_end n l common.some first second);
          },
        )
      where
        which : (r : StringRow) → is_end r p ≡ true → (r.from ≡ p) ⊎ (r.to ≡ p)
        which r end = elim (ends r p end) [ inl e ↦ inl e.0 | inr e ↦ inr e.0 ]

    pub meet-at_end : ¬ (start ≡ first_end) → HaveOnlyStart start first_end second_end ↔ MeetAtEnds m s t
    meet-at_end apart = (meet-from_only_start, only_start-from_meet apart)
