-- Where all that is held near an edit is seen to be clear of it, V3 and V4 are kept there.
use Rattle.std.proofs.Common.{◌≡◌, ◌≢◌, ℕ, ℤ, ◌≤ℤ◌, List, map, Some, None, Bool, true, false, not, refl, sym, ap, subst, ◌∙◌, ◌⊎◌, inl, inr, true≢false, arith, if◌then◌else◌}
use Rattle.std.proofs.lemmas.Int.{ints}
use Rattle.std.proofs.lemmas.Bool.{and_parts, and_from, not-true, not_from_false, false_from_ne_true, eqb-true, eq-eqb, cases_eq}
use Rattle.std.specs.Prelude.{◌↔◌, IsTrue, ◌||◌, ◌==◌}
use Rattle.std.specs.List.{AllByRecursion, Contains}
use Rattle.geo_exact.specs.Position.{Position}
use Rattle.geo_exact.specs.SignTest.{boxes_overlap, overlaps}
use Rattle.geo_exact.proofs.CallerLemmas.{boxes_overlap-HaveCommonLocation, HaveCommonLocation-exchanged}
use Rattle.cad_rows.specs.declared.rows.PointRow.{PointRow}
use Rattle.cad_rows.specs.declared.rows.StringRow.{StringRow}
use Rattle.cad_map.specs.Map.{Map, has_point, position_of, point_of, string_of, is_end, far_end}
use Rattle.cad_map.specs.Crossings.{HasPlacedRows, HasTwoPoints}
use Rattle.numbered_rows.specs.Rows.{row_with}
use Rattle.cad_map.specs.Touched.{Touched}
use Rattle.cad_map.specs.Valid.{EachPair, HasSoundRows, is_same_position, MeetAtEnds, LiesOnlyAsEnd}
use Rattle.cad_map.proofs.CallerLemmas.{All-at_each, All-from_each, list_all-at, positions-differ, all-placed, is_end-from, is_end-of, far_end-away, meet-at_end}
use Rattle.cell_grid.specs.declared.entry.HeldString.{HeldString}
use Rattle.cell_grid.specs.declared.entry.HeldPoint.{HeldPoint}
use Rattle.cad_near.specs.declared.seen.Lying.{Lying}
use Rattle.cad_near.specs.declared.seen.Reach.{Reach}
use Rattle.cad_near.specs.declared.seen.Seen.{Seen}
use Rattle.cad_near.specs.Near.{OfPoint, OfString, IsAlone, IsUncrossed, LiesAtEnds, AreUncrossed}
use Rattle.cad_valid.specs.Placed.{have_common}
use Rattle.cad_near.specs.Seen.{lying_string, lying_point, HasInReach, IsSeen, SeesStrings, starts_alone, meets_by_sight, lies_by_sight, is_clear_of, is_clear_string, is_clear_point, is_apart_from, is_apart_point, IsSeenAlone, lies_alike, held_string, held_point, HasStringThere, HasPointThere}
use Rattle.cad_valid.proofs.CallerLemmas.{not-iff}
use Rattle.cad_near.proofs.Candidates.{HavePassed, passed-each, second-of}
use Rattle.cad_valid.proofs.CallerLemmas.{have_common-is, only_start}
use Rattle.cad_near.proofs.RowsByNumber.{row-is, row-found_is, point-position, point-there}
use Rattle.cad_valid.proofs.CallerLemmas.{same_position, same_itself}

-- ---- Boxes

overlaps-wider : (l h a b c d : ℤ) → l ≤ℤ a → a ≤ℤ h → l ≤ℤ b → b ≤ℤ h → overlaps a b c d ≡ true → overlaps l h c d ≡ true
overlaps-wider l h a b c d la ah lb bh over = grind (arith, ints)

-- a box overlaps itself
overlaps-itself : (a b : ℤ) → overlaps a b a b ≡ true
overlaps-itself a b = grind (arith, ints)

overlap_itself : (a b : Position) → boxes_overlap a b a b ≡ true
overlap_itself a b = and_from (overlaps a.x b.x a.x b.x) (overlaps a.y b.y a.y b.y) (overlaps-itself a.x b.x) (overlaps-itself a.y b.y)

-- what overlaps the box of what was gathered overlaps the box round all
pub wider : (r : Reach) (f : Lying) (c d : Position) → HasInReach r f → boxes_overlap f.a f.b c d ≡ true → boxes_overlap r.low r.high c d ≡ true
wider r f c d within over =
    let both = and_parts (overlaps f.a.x f.b.x c.x d.x) (overlaps f.a.y f.b.y c.y d.y) over in
    and_from (overlaps r.low.x r.high.x c.x d.x) (overlaps r.low.y r.high.y c.y d.y)
    (overlaps-wider r.low.x r.high.x f.a.x f.b.x c.x d.x within.a.left within.a.right within.b.left within.b.right both.0)
    (overlaps-wider r.low.y r.high.y f.a.y f.b.y c.y d.y within.a.bottom within.a.top within.b.bottom within.b.top both.1)

-- and so does what was gathered
pub in_reach : (r : Reach) (f : Lying) → HasInReach r f → boxes_overlap r.low r.high f.a f.b ≡ true
in_reach r f within = wider r f f.a f.b within (overlap_itself f.a f.b)

-- ---- What the grid holds

-- ends at the same positions, and the same number
same_lying : (f g : Lying) → f.number ≡ g.number → lies_alike f g ≡ true → f ≡ g
same_lying f g number alike =
    let both = and_parts (is_same_position f.a g.a) (is_same_position f.b g.b) alike in
    let a = same_position f.a g.a both.0 in
    let b = same_position f.b g.b both.1 in
    λ i. record { number = number i; a = a i; b = b i }

lies_alike-itself : (f : Lying) → lies_alike f f ≡ true
lies_alike-itself f = and_from (is_same_position f.a f.a) (is_same_position f.b f.b) (same_itself f.a) (same_itself f.b)

-- Of rows of a table that lie somewhere, what is held of them.
module _ {R : Type 0} (lying : R → Lying) (rows : List R) where
  -- one lies as it is held
  abbrev IsThere : Lying → Type 0
  IsThere f = (r : R) × Contains rows r × (lying r ≡ f)

  -- what is held passes a test, if one does
  abbrev OfHeld : (Lying → Bool) → Lying → Type 0
  OfHeld test f = (r : R) → Contains rows r → lying r ≡ f → IsTrue (test f)

  -- all that is held near passes exactly where all that the map has near does
  pub rows-seen : {H : Type 0} (held : H → Lying) (reach : Reach) (test : Lying → Bool) (given : List H) (b : Bool) → HavePassed (λ h. OfHeld test (held h)) given b
      → ((h : H) → Contains given h → boxes_overlap reach.low reach.high (held h).a (held h).b ≡ true)
      → ((r : R) → Contains rows r → boxes_overlap reach.low reach.high (lying r).a (lying r).b ≡ true → (h : H) × Contains given h × (lying r ≡ held h))
      → IsTrue b ↔ ((r : R) → Contains rows r → IsTrue (boxes_overlap reach.low reach.high (lying r).a (lying r).b) → IsTrue (test (lying r)))
  rows-seen held reach test given b passed near all =
      let is = passed-each (λ h. OfHeld test (held h)) given b passed in (
        (λ t r there over. let h = all r there over in subst (λ (f : Lying). test f ≡ true) (sym h.2) (is.0 t h.0 h.1 r there h.2)),
        (λ sees. is.1 (λ h h_there r there same.
            subst (λ (f : Lying). test f ≡ true) same
            (sees r there (subst (λ (f : Lying). boxes_overlap reach.low reach.high f.a f.b ≡ true) (sym same) (near h h_there))))),
      )

  module _ (test : Lying → Bool) (f : Lying) (b : Bool) where
    -- what isn't seen to pass does so where it isn't there
    pub row-passes : test f ≡ false → IsTrue b ↔ (¬ IsThere f) → IsTrue b ↔ OfHeld test f
    row-passes fails is = (
      (λ t r there same. absurd (is.0 t (r, there, same))),
      (λ passes. is.1 (λ there. true≢false (sym (passes there.0 there.1 there.2) ∙ fails))),
    )

    -- and what is does
    pub row-passed : b ≡ test f → b ≡ true → IsTrue b ↔ OfHeld test f
    row-passed is t = ((λ _ r there same. sym is ∙ t), (λ _. t))

  -- the map has what is held there exactly where the row of its number lies alike
  module _ (apart : EachPair (λ a b. a ≢ b) (map (λ r. (lying r).number) rows)) (f : Lying) where
    found-there : (there : IsThere f) → row_with (λ r. (lying r).number) f.number rows ≡ Some there.0
    found-there there = ap (λ (g : Lying). row_with (λ r. (lying r).number) g.number rows) (sym there.2) ∙ row-is (λ r. (lying r).number) rows there.0 apart there.1

    pub row-stale : (row : R) → row_with (λ r. (lying r).number) f.number rows ≡ Some row → IsTrue (not (lies_alike (lying row) f)) ↔ (¬ IsThere f)
    row-stale row found = (
      (λ elsewhere there.
          let one : Some there.0 ≡ Some row = sym (found-there there) ∙ found in
          let is : there.0 ≡ row = cc in
          let alike : lies_alike (lying row) f ≡ true = subst (λ (g : Lying). lies_alike g f ≡ true) (sym there.2 ∙ ap lying is) (lies_alike-itself f) in
          true≢false (sym alike ∙ not-true (lies_alike (lying row) f) elsewhere)),
      (λ gone.
          let is = row-found_is (λ (r : R). (lying r).number) rows f.number row found in
          not_from_false (lies_alike (lying row) f)
          (false_from_ne_true (lies_alike (lying row) f) (λ alike. gone (row, is.0, same_lying (lying row) f is.1 alike)))),
    )

    row-gone : row_with (λ r. (lying r).number) f.number rows ≡ None → IsTrue true ↔ (¬ IsThere f)
    row-gone none = (
      (λ t there. let one : Some there.0 ≡ None = sym (found-there there) ∙ none in cc),
      (λ gone. refl),
    )

module _ (m : Map) (sound : HasSoundRows m) where
  pub string-gone : (h : HeldString) → string_of m h.string ≡ None → IsTrue true ↔ (¬ HasStringThere m h)
  string-gone h = row-gone (lying_string m) m.strings sound.strings.distinct (held_string h)

  pub point-gone : (h : HeldPoint) → point_of m h.point ≡ None → IsTrue true ↔ (¬ HasPointThere m h)
  point-gone h = row-gone lying_point m.points sound.points.distinct (held_point h)

  -- a string and a point that the map doesn't have at all are stale
  pub ruleset rows_gone = (string-gone, point-gone)

  -- ---- V3

  -- where all points near are seen to lie apart from the touched ones, these lie alone
  pub alone-by_sight : (t : Touched) (v : Seen) → IsSeenAlone m t v → AllByRecursion (OfPoint m (IsAlone m)) t.points
  unfolding OfPoint
  alone-by_sight t v alone = All-from_each (OfPoint m (IsAlone m)) t.points (λ n named p hp is q hq other same.
      let seen = alone.seen in
      let there = All-at_each (OfPoint m (λ p. Contains v.points.items (lying_point p))) t.points n seen.points named p hp is in
      let within = All-at_each (HasInReach v.reach) v.points.items (lying_point p) seen.points_in there in
      let near : boxes_overlap p.position p.position q.position q.position ≡ true = subst (λ (r : Position). boxes_overlap p.position p.position r r ≡ true) (sym same) (overlap_itself p.position p.position) in
      let apart = list_all-at (λ (f : Lying). is_apart_from f (lying_point q)) v.points.items (lying_point p) (and_parts (is_clear_point v (lying_point q)) (is_apart_point v (lying_point q)) (alone.points q hq (wider v.reach (lying_point p) q.position q.position within near))).1 there in
      differ p q (λ e. other (sym e)) (sym same) apart)
    where
      differ : (p q : PointRow) → p.number ≢ q.number → p.position ≡ q.position → is_apart_from (lying_point p) (lying_point q) ≡ true → ⊥
      differ p q other same apart = by (p.number == q.number) refl apart
        where
          by : (b : Bool) → (p.number == q.number) ≡ b → (b || not (is_same_position p.position q.position)) ≡ true → ⊥
          by true is t = other (eqb-true p.number q.number is)
          by false is t =
              let one : is_same_position p.position q.position ≡ true = subst (λ (r : Position). is_same_position p.position r ≡ true) same (same_itself p.position) in
              true≢false (sym one ∙ not-true (is_same_position p.position q.position) t)

-- ---- V4

far_end-from : (s : StringRow) → far_end s s.from ≡ s.to
far_end-from s = rw (eq-eqb s.from s.from refl) refl

far_end-to : (s : StringRow) → s.from ≢ s.to → far_end s s.to ≡ s.from
far_end-to s two = rw (false_from_ne_true (s.from == s.to) (λ is. two (eqb-true s.from s.to is))) refl

module _ (m : Map) (rows : HasPlacedRows m) where
  -- points of the map at one position are one
  one_point : (p q : ℕ) → IsTrue (has_point m p) → IsTrue (has_point m q) → is_same_position (position_of m p) (position_of m q) ≡ true → p ≡ q
  one_point p q p_in q_in same = elim (cases_eq p q) [
    | inl e ↦ e
    | inr ne ↦ absurd (positions-differ m rows p q p_in q_in ne (same_position (position_of m p) (position_of m q) same))
  ]

  module _ (s t : StringRow) (s_placed : HasTwoPoints m s) (t_placed : HasTwoPoints m t) where
    -- where two strings with a shared end are seen to have only that in common they meet there alone
    from_shared : (p : ℕ) → is_end s p ≡ true → is_end t p ≡ true → starts_alone (position_of m p) (position_of m (far_end s p)) (position_of m (far_end t p)) ≡ true → MeetAtEnds m s t
    from_shared p s_end t_end alone =
        let s_away = far_end-away m rows s s_placed p s_end in
        let t_away = far_end-away m rows t t_placed p t_end in
        (meet-at_end m s t p (record { of_first = s_end; of_second = t_end }) (λ same. s_away (sym same))).0
        ((only_start (position_of m p) (position_of m (far_end s p)) (position_of m (far_end t p)) s_away t_away).0 alone)

    -- so where an end of one lies where one of the other does
    at_ends : (p q a b : ℕ) → is_end s p ≡ true → far_end s p ≡ a → is_end t q ≡ true → far_end t q ≡ b → IsTrue (has_point m p) → IsTrue (has_point m q)
        → is_same_position (position_of m p) (position_of m q) ≡ true → starts_alone (position_of m p) (position_of m a) (position_of m b) ≡ true → MeetAtEnds m s t
    at_ends p q a b s_end s_far t_end t_far p_in q_in same alone =
        let e = one_point p q p_in q_in same in
        from_shared p s_end (subst (λ (r : ℕ). is_end t r ≡ true) (sym e) t_end)
        (subst (λ (r : ℕ). starts_alone (position_of m p) (position_of m r) (position_of m (far_end t p)) ≡ true) (sym s_far)
        (subst (λ (r : ℕ). starts_alone (position_of m p) (position_of m a) (position_of m r) ≡ true) (sym (ap (far_end t) e ∙ t_far)) alone))

    -- two strings that are seen to meet at ends alone do
    pub meet-by_sight : meets_by_sight (position_of m s.from) (position_of m s.to) (position_of m t.from) (position_of m t.to) ≡ true → MeetAtEnds m s t
    meet-by_sight sees =
        by (boxes_overlap a b c d) (is_same_position a c) (is_same_position a d) (is_same_position b c) (is_same_position b d) refl refl refl refl refl sees
      where
        a : Position
        a = position_of m s.from

        b : Position
        b = position_of m s.to

        c : Position
        c = position_of m t.from

        d : Position
        d = position_of m t.to

        by : (o p q r u : Bool) → boxes_overlap a b c d ≡ o → is_same_position a c ≡ p → is_same_position a d ≡ q → is_same_position b c ≡ r → is_same_position b d ≡ u
            → (if not o then true else (if p then starts_alone a b d else (if q then starts_alone a b c else (if r then starts_alone b a d else (if u then starts_alone b a c else not (have_common a b c d)))))) ≡ true → MeetAtEnds m s t
        by false p q r u apart _ _ _ _ _ = λ common. absurd (true≢false (sym (boxes_overlap-HaveCommonLocation a b c d common) ∙ apart))
        by true true q r u _ ac _ _ _ alone =
            at_ends s.from t.from s.to t.to (is_end-from s) (far_end-from s) (is_end-from t) (far_end-from t) s_placed.from_in t_placed.from_in ac alone
        by true false true r u _ _ ad _ _ alone =
            at_ends s.from t.to s.to t.from (is_end-from s) (far_end-from s) (is_end-of t t.to (inr refl)) (far_end-to t t_placed.two) s_placed.from_in t_placed.to_in ad alone
        by true false false true u _ _ _ bc _ alone =
            at_ends s.to t.from s.from t.to (is_end-of s s.to (inr refl)) (far_end-to s s_placed.two) (is_end-from t) (far_end-from t) s_placed.to_in t_placed.from_in bc alone
        by true false false false true _ _ _ _ bd alone =
            at_ends s.to t.to s.from t.from (is_end-of s s.to (inr refl)) (far_end-to s s_placed.two) (is_end-of t t.to (inr refl)) (far_end-to t t_placed.two) s_placed.to_in t_placed.to_in bd alone
        by true false false false false _ _ _ _ _ none =
            λ common. absurd ((not-iff _ _ (have_common-is a b c d)).0 none common)

  -- a point that is seen to lie on a string as its end alone does
  pub lies-by_sight : (p : PointRow) (s : StringRow) → Contains m.points p → HasTwoPoints m s → lies_by_sight p.position (position_of m s.from) (position_of m s.to) ≡ true → LiesOnlyAsEnd m p s
  lies-by_sight p s hp placed sees common =
      by (is_same_position p.position (position_of m s.from)) (is_same_position p.position (position_of m s.to)) refl refl sees
    where
      named : (q : ℕ) → IsTrue (has_point m q) → is_same_position p.position (position_of m q) ≡ true → q ≡ p.number
      named q q_in same =
          sym (one_point p.number q (point-there m rows.v1 p hp) q_in (subst (λ (r : Position). is_same_position r (position_of m q) ≡ true) (sym (point-position m rows.v1 p hp)) same))

      by : (b c : Bool) → is_same_position p.position (position_of m s.from) ≡ b → is_same_position p.position (position_of m s.to) ≡ c
          → ((b || c) || not (have_common (position_of m s.from) (position_of m s.to) p.position p.position)) ≡ true → (s.from ≡ p.number) ⊎ (s.to ≡ p.number)
      by true c from _ _ = inl (named s.from placed.from_in from)
      by false true _ to _ = inr (named s.to placed.to_in to)
      by false false _ _ apart = absurd ((not-iff _ _ (have_common-is (position_of m s.from) (position_of m s.to) p.position p.position)).0 apart common)

  module _ (t : Touched) (v : Seen) (alone : IsSeenAlone m t v) (strings : SeesStrings m v (is_clear_string v)) where
    seen : IsSeen m t v
    seen = alone.seen

    placed : (s : StringRow) → Contains m.strings s → HasTwoPoints m s
    placed s hs = All-at_each (HasTwoPoints m) m.strings s (all-placed m rows) hs

    -- the strings of the map that overlap a gathered string or point are seen to be clear
    clear : (f : Lying) → HasInReach v.reach f → (s : StringRow) → Contains m.strings s → boxes_overlap f.a f.b (position_of m s.from) (position_of m s.to) ≡ true
        → is_clear_string v (lying_string m s) ≡ true
    clear f within s hs over = strings s hs (wider v.reach f (position_of m s.from) (position_of m s.to) within over)

    string-uncrossed : (s : StringRow) → Contains m.strings s → Contains v.strings.items (lying_string m s) → IsUncrossed m s
    string-uncrossed s hs there =
        let f = lying_string m s in
        let within = All-at_each (HasInReach v.reach) v.strings.items f seen.strings_in there in
        record {
          strings = λ r hr other common.
              let over = boxes_overlap-HaveCommonLocation (position_of m s.from) (position_of m s.to) (position_of m r.from) (position_of m r.to) common in
              let both = and_parts _ _ (clear f within r hr over) in
              meet-by_sight s r (placed s hs) (placed r hr) (differ s r other (list_all-at (λ (g : Lying). is_clear_of g (lying_string m r)) v.strings.items f both.0 there)) common;
          points = λ p hp common.
              let over = boxes_overlap-HaveCommonLocation (position_of m s.from) (position_of m s.to) p.position p.position common in
              let clear_point = (and_parts (is_clear_point v (lying_point p)) (is_apart_point v (lying_point p)) (alone.points p hp (wider v.reach f p.position p.position within over))).0 in
              lies-by_sight p s hp (placed s hs) (list_all-at (λ (g : Lying). lies_by_sight p.position g.a g.b) v.strings.items f clear_point there) common;
        }
      where
        differ : (s r : StringRow) → r.number ≢ s.number → is_clear_of (lying_string m s) (lying_string m r) ≡ true
            → meets_by_sight (position_of m s.from) (position_of m s.to) (position_of m r.from) (position_of m r.to) ≡ true
        differ s r other clear = second-of {k = s.number} {n = r.number} (λ is. other (sym is)) clear

    point-clear : (p : PointRow) → Contains m.points p → Contains v.points.items (lying_point p) → LiesAtEnds m p
    point-clear p hp there s hs common =
        let f = lying_point p in
        let within = All-at_each (HasInReach v.reach) v.points.items f seen.points_in there in
        let over = boxes_overlap-HaveCommonLocation p.position p.position (position_of m s.from) (position_of m s.to)
        (HaveCommonLocation-exchanged p.position p.position (position_of m s.from) (position_of m s.to) common) in
        let both = and_parts _ _ (clear f within s hs over) in
        lies-by_sight p s hp (placed s hs) (list_all-at (λ (g : Lying). lies_by_sight g.a (position_of m s.from) (position_of m s.to)) v.points.items f both.1 there) common

    -- where all that is near is seen to be clear, nothing crosses what was touched
    pub uncrossed-by_sight : AreUncrossed m t
    unfolding OfPoint OfString
    uncrossed-by_sight = record {
      strings = All-from_each (OfString m (IsUncrossed m)) t.strings (λ n named s hs is.
          string-uncrossed s hs (All-at_each (OfString m (λ s. Contains v.strings.items (lying_string m s))) t.strings n seen.strings named s hs is));
      points = All-from_each (OfPoint m (LiesAtEnds m)) t.points (λ n named p hp is.
          point-clear p hp (All-at_each (OfPoint m (λ p. Contains v.points.items (lying_point p))) t.points n seen.points named p hp is));
    }
