-- Where one point moved, the corners at a neighbour that sees it between the same two strings are empty as they were.
-- It rests on the order of directions round a point (`RoundPoint`): of three it is the same from
-- whichever it is begun, and four follow one another as two times three do.
use Rattle.std.proofs.Common.{◌≡◌, ◌≢◌, ℕ, refl, sym, ap, subst, ◌∙◌, ◌⊎◌, inl, inr, Bool, true, false, true≢false, not, length, ◌≤◌, Option, Some, eq-eqb, eqb-true}
use Rattle.std.proofs.lemmas.Bool.{cases_eq, not-true}
use Rattle.std.specs.Prelude.{IsTrue, IfSome, ◌↔◌, ◌==◌, ◌||◌}
use Rattle.std.specs.List.{AllByRecursion, Contains, list_any}
use Rattle.geo_exact.specs.Position.{Position}
use Rattle.geo_exact.specs.Orientation.{IsSameDirection}
use Rattle.geo_exact.specs.Sector.{in_sector, AreThreeDirections}
use Rattle.geo_exact.proofs.CallerLemmas.{in_one_sector, in_sector-first_border, in_sector-last_border, IsClear, stays-clear_last, stays-clear_first, stays-clear_elsewhere}
use Rattle.cad_rows.specs.declared.rows.StringRow.{StringRow}
use Rattle.cad_rings.specs.Cycle.{Corner, corners_of, sides_of}
use Rattle.cad_rings.specs.Surgery.{corner}
use Rattle.cad_map.specs.Map.{Map, position_of, all_corners, strings_at, is_end, far_end}
use Rattle.cad_map.specs.Rings.{HasWholeRings}
use Rattle.cad_map.specs.Valid.{IsValid, is_empty_corner, has_empty_corners}
use Rattle.cad_map.specs.Touched.{Touched, Moved, IsTouched, PointStands, ComesByMove, ComesBySplit, neighbours}
use Rattle.cad_map.specs.Views.{AreBeyond}
use Rattle.cad_map.proofs.CallerLemmas.{All-at_each, All-from_each, list_any-found, list_any-Contains, list_all-at, list_all-from, filter-Contains, Contains-filter, map-Contains, Contains-map, corner-points, corner-all_sides, corner-only, behind-only, corner-sides, Contains-in_part, two-each, apart-valid, IsBeside, distinct-whole, whole_valid, IsString, Joins, joins-end, joins-far, joins-far_end, two_ends, three_directions}
use Rattle.cad_near.specs.Near.{HasEmptyCornersAt, HasEmptyCornersRound}
use Rattle.cad_near.proofs.NearCorners.{joins-turned, string-of_side}

-- ---- The strings and corners at a point of a valid map

module _ (m : Map) (valid : IsValid m) (q : ℕ) where
  -- a string leads from q to r
  abbrev Leads : ℕ → Type 0
  Leads r = (s : StringRow) × IsString m valid s q r

  three : (a b r : ℕ) → Leads a → Leads b → Leads r → a ≢ b → a ≢ r → r ≢ b → AreThreeDirections (position_of m q) (position_of m a) (position_of m b) (position_of m r)
  three a b r j k l = three_directions m valid j.0 k.0 l.0 q a b r j.1 k.1 l.1

  -- the sides of a corner lie along strings
  both-lead : (a b : ℕ) → Contains (all_corners m) (corner a q b) → Leads a × Leads b
  both-lead a b h =
      let whole = whole_valid m valid in
      let sides = corner-all_sides m whole (corner a q b) h in
      let front = string-of_side m whole a q sides.0 in
      let back = string-of_side m whole q b sides.1 in
      ((front.string, record { there = front.there; joins = joins-turned front.string a q front.joins }), (back.string, record { there = back.there; joins = back.joins }))

  -- which are two
  two-sides : (a b : ℕ) → Contains (all_corners m) (corner a q b) → a ≢ b
  two-sides a b h same =
      let whole = whole_valid m valid in
      let ring = Contains-in_part (λ b. corners_of b.ring) m.boundaries (corner a q b) h in
      let sides = corner-sides ring.0.ring (All-at_each (λ b. 2 ≤ length b.ring) m.boundaries ring.0 (two-each m whole) ring.1) (corner a q b) ring.2 in
      let front : IsBeside ring.0.face (a, q) m.boundaries = record { boundary = ring.0; there = ring.1; face = refl; has = sides.0 } in
      let back : IsBeside ring.0.face (q, a) m.boundaries = record { boundary = ring.0; there = ring.1; face = refl; has = subst (λ (n : ℕ). Contains (sides_of ring.0.ring) (q, n)) (sym same) sides.1 } in
      (apart-valid m valid).apart (a, q) ring.0.face ring.0.face front back refl

  -- and no string lies between them
  none-between : (a b r : ℕ) → Contains (all_corners m) (corner a q b) → Leads r → in_sector (position_of m q) (position_of m b) (position_of m a) (position_of m r) ≡ false
  none-between a b r h k =
      let empty = list_all-at (is_empty_corner m) (all_corners m) (corner a q b) valid.keeps.v6 h in
      let end = joins-end k.0 q r k.1.joins in
      let far = joins-far_end k.0 q r (two_ends m valid k.0 q r k.1) k.1.joins in
      let clear = list_all-at (λ s. not (in_sector (position_of m q) (position_of m b) (position_of m a) (position_of m (far_end s q)))) (strings_at m q) k.0 empty (Contains-filter (λ s. is_end s q) m.strings k.0 k.1.there end) in
      subst (λ (n : ℕ). in_sector (position_of m q) (position_of m b) (position_of m a) (position_of m n) ≡ false) far (not-true _ clear)

-- ---- A point that stands, where one other moved

module _ (old new : Map) (valid : IsValid old) (p : ℕ) (others : (r : ℕ) → r ≢ p → position_of new r ≡ position_of old r) (q : ℕ) (stands : PointStands old new q) where
  -- it had its corners before
  kept : (a b : ℕ) → Contains (all_corners new) (corner a q b) → Contains (all_corners old) (corner a q b)
  kept a b h =
      (filter-Contains (λ c. c.at == q) (all_corners old) (corner a q b)
      ((stands.corners (corner a q b)).0 (Contains-filter (λ c. c.at == q) (all_corners new) (corner a q b) h (eq-eqb q q refl)))).0

  -- and its strings
  led : (s : StringRow) → Contains (strings_at new q) s → Leads old valid q (far_end s q)
  led s h =
      let before = map-Contains (λ s. far_end s q) (strings_at old q) (far_end s q) ((stands.strings (far_end s q)).0 (Contains-map (λ s. far_end s q) (strings_at new q) s h)) in
      let f = filter-Contains (λ s. is_end s q) old.strings before.0 before.1 in
      (before.0, record { there = f.0; joins = subst (Joins before.0 q) before.2 (joins-far before.0 q f.1) })

  -- a corner between two others is clear of each other
  clear-elsewhere : (a b r : ℕ) → Contains (all_corners new) (corner a q b) → Leads old valid q r → a ≢ p → b ≢ p → r ≢ p
      → in_sector (position_of new q) (position_of new b) (position_of new a) (position_of new r) ≡ false
  clear-elsewhere a b r h k a_other b_other r_other =
      (λ i. in_sector (stands.position i) (others b b_other i) (others a a_other i) (others r r_other i)) ∙ none-between old valid q a b r (kept a b h) k

  -- so its corners are empty where each is clear of all that it had strings to
  empty-where_clear : ((a b r : ℕ) → Contains (all_corners new) (corner a q b) → Leads old valid q r → in_sector (position_of new q) (position_of new b) (position_of new a) (position_of new r) ≡ false)
      → HasEmptyCornersAt new q
  empty-where_clear clear c h is =
      let there = subst (λ (n : ℕ). Contains (all_corners new) (corner c.before n c.after)) is h in
      subst (λ (n : ℕ). IsTrue (is_empty_corner new (corner c.before n c.after))) (sym is)
      (list_all-from (λ s. not (in_sector (position_of new q) (position_of new c.after) (position_of new c.before) (position_of new (far_end s q)))) (strings_at new q)
      (λ s k. ap not (clear c.before c.after (far_end s q) there (led s k))))

  -- where no string leads to the moved point, all are as they were
  pub empty-elsewhere : ¬ Leads old valid q p → HasEmptyCornersAt new q
  empty-elsewhere none = empty-where_clear (λ a b r h k.
      let sides = both-lead old valid q a b (kept a b h) in
      clear-elsewhere a b r h k (λ e. none (subst (Leads old valid q) e sides.0)) (λ e. none (subst (Leads old valid q) e sides.1)) (λ e. none (subst (Leads old valid q) e k)))

  -- ---- A neighbour of the moved point

  module _ (whole : HasWholeRings new) (x y : ℕ) (beyond : AreBeyond new p q x y)
      (between : in_sector (position_of new q) (position_of new y) (position_of new x) (position_of new p) ≡ true) where
    abbrev v : Position
    v = position_of old q

    -- where a point lay, and where the moved one lies
    abbrev at : ℕ → Position
    at = position_of old

    abbrev b : Position
    b = position_of new p

    -- neither of the two is the moved point
    x_other : x ≢ p
    x_other e = true≢false (sym between ∙ ap (λ (n : ℕ). in_sector (position_of new q) (position_of new y) (position_of new n) b) e ∙ in_sector-last_border (position_of new q) (position_of new y) b)

    y_other : y ≢ p
    y_other e = true≢false (sym between ∙ ap (λ (n : ℕ). in_sector (position_of new q) (position_of new n) (position_of new x) b) e ∙ in_sector-first_border (position_of new q) b (position_of new x))

    -- where they lay, it is between them
    inside : in_sector v (at y) (at x) b ≡ true
    inside = (λ i. in_sector (sym stands.position i) (sym (others y y_other) i) (sym (others x x_other) i) b) ∙ between

    to_x : Leads old valid q x
    to_x = (both-lead old valid q x p (kept x p beyond.comes)).0

    to_p : Leads old valid q p
    to_p = (both-lead old valid q x p (kept x p beyond.comes)).1

    to_y : Leads old valid q y
    to_y = (both-lead old valid q p y (kept p y beyond.goes)).1

    -- no string lay in the two sectors beside the moved point
    before_p : (r : ℕ) → Leads old valid q r → in_sector v (at p) (at x) (at r) ≡ false
    before_p r = none-between old valid q x p r (kept x p beyond.comes)

    after_p : (r : ℕ) → Leads old valid q r → in_sector v (at y) (at p) (at r) ≡ false
    after_p r = none-between old valid q p y r (kept p y beyond.goes)

    -- where there is a third string, the two beside the one to the moved point differ
    third : (r : ℕ) → Leads old valid q r → r ≢ p → r ≢ y → x ≢ y
    third r k r_other r_apart same =
        let either = in_one_sector v (at p) (at x) (at r) (three old valid q p x r to_p to_x k (λ e. x_other (sym e)) (λ e. r_other (sym e)) (λ e. r_apart (e ∙ same))) in
        let other : in_sector v (at x) (at p) (at r) ≡ false = ap (λ (n : ℕ). in_sector v (at n) (at p) (at r)) same ∙ after_p r k in
        true≢false (sym either ∙ (λ i. before_p r k i || other i))

    -- then a string to another point leads in another direction than the moved one lay
    directions : (r : ℕ) → Leads old valid q r → r ≢ p → x ≢ y → ¬ IsSameDirection v (at p) (at r)
    directions r k r_other apart = elim (cases_eq r x) [
      | inl e ↦ subst (λ (n : ℕ). ¬ IsSameDirection v (at p) (at n)) (sym e) (three old valid q p x y to_p to_x to_y (λ f. x_other (sym f)) (λ f. y_other (sym f)) (λ f. apart (sym f))).n_from_p
      | inr r_apart ↦ (three old valid q p x r to_p to_x k (λ f. x_other (sym f)) (λ f. r_other (sym f)) r_apart).n_from_w
    ]

    turn : x ≢ y → AreThreeDirections v (at y) (at x) (at p)
    turn apart = three old valid q y x p to_y to_x to_p (λ e. apart (sym e)) y_other (λ e. x_other (sym e))

    -- the two corners at the moved point are clear of what stands
    clear-last : (r : ℕ) → Leads old valid q r → r ≢ p → in_sector v b (at x) (at r) ≡ false
    clear-last r k r_other = elim (cases_eq r x) [
      | inl e ↦ ap (λ (n : ℕ). in_sector v b (at x) (at n)) e ∙ in_sector-last_border v b (at x)
      | inr r_apart ↦
          let apart : x ≢ y = λ f. third r k r_other (λ g. r_apart (g ∙ sym f)) f in
          stays-clear_last v (at y) (at p) (at x) (turn apart) b inside (at r) (directions r k r_other apart) (after_p r k) (before_p r k)
    ]

    clear-first : (r : ℕ) → Leads old valid q r → r ≢ p → in_sector v (at y) b (at r) ≡ false
    clear-first r k r_other = elim (cases_eq r y) [
      | inl e ↦ ap (λ (n : ℕ). in_sector v (at y) b (at n)) e ∙ in_sector-first_border v (at y) b
      | inr r_apart ↦
          let apart = third r k r_other r_apart in
          stays-clear_first v (at y) (at p) (at x) (turn apart) b inside (at r) (directions r k r_other apart) (after_p r k) (before_p r k)
    ]

    -- no other corner has the side to the moved point, the side from it, or that to y
    only-before : (c : ℕ) → Contains (all_corners new) (corner c q p) → c ≡ x
    only-before c h = ap (λ (d : Corner). d.before) (behind-only new whole (corner c q p) (corner x q p) h beyond.comes refl)

    only-after : (c : ℕ) → Contains (all_corners new) (corner p q c) → c ≡ y
    only-after c h = ap (λ (d : Corner). d.after) (corner-only new.boundaries (distinct-whole new whole) (corner p q c) (corner p q y) h beyond.goes refl)

    only-to_y : (c : ℕ) → Contains (all_corners new) (corner c q y) → c ≡ p
    only-to_y c h = ap (λ (d : Corner). d.before) (behind-only new whole (corner c q y) (corner p q y) h beyond.goes refl)

    -- and the moved point isn't between the sides of another corner
    clear-of_moved : (c d : ℕ) → Contains (all_corners new) (corner c q d) → c ≢ p → d ≢ p → in_sector v (at d) (at c) b ≡ false
    clear-of_moved c d h c_other d_other =
        let sides = both-lead old valid q c d (kept c d h) in
        let d_y : d ≢ y = λ e. c_other (only-to_y c (subst (λ (n : ℕ). Contains (all_corners new) (corner c q n)) e h)) in
        let apart = third d sides.1 d_other d_y in
        let two : d ≢ c = λ e. two-sides old valid q c d (kept c d h) (sym e) in
        let sides_apart = three old valid q d c p sides.1 sides.0 to_p two d_other (λ e. c_other (sym e)) in
        stays-clear_elsewhere v (at y) (at p) (at x) (turn apart) b inside (at d) (at c) (from d sides.1 d_other d_y apart) sides_apart.p_away sides_apart.n_from_p (inr (none-between old valid q c d y (kept c d h) to_y))
      where
        from : (d : ℕ) → Leads old valid q d → d ≢ p → d ≢ y → x ≢ y → (at d ≡ at x) ⊎ IsClear v (at y) (at p) (at x) (at d)
        from d k d_other d_y apart = elim (cases_eq d x) [
          | inl e ↦ inl (ap at e)
          | inr d_x ↦
              let to_d = three old valid q y x d to_y to_x k (λ e. apart (sym e)) (λ e. d_y (sym e)) d_x in
              inr (record { s_away = to_d.w_away; y_from_s = to_d.n_from_w; a_from_s = directions d k d_other apart; s_from_x = to_d.w_from_p; not_first = after_p d k; not_last = before_p d k })
        ]

    -- so all corners are empty
    pub empty-stayed : HasEmptyCornersAt new q
    empty-stayed = empty-where_clear (λ c d r h k. elim (cases_eq d p) [
      | inl e ↦
          let c_x = only-before c (subst (λ (n : ℕ). Contains (all_corners new) (corner c q n)) e h) in
          elim (cases_eq r p) [
            | inl f ↦ (λ i. in_sector (position_of new q) (position_of new (e i)) (position_of new c) (position_of new (f i))) ∙ in_sector-first_border (position_of new q) b (position_of new c)
            | inr r_other ↦
                (λ i. in_sector (stands.position i) (position_of new (e i)) ((ap (position_of new) c_x ∙ others x x_other) i) (others r r_other i)) ∙ clear-last r k r_other
          ]
      | inr d_other ↦ elim (cases_eq c p) [
        | inl e ↦
            let d_y = only-after d (subst (λ (n : ℕ). Contains (all_corners new) (corner n q d)) e h) in
            elim (cases_eq r p) [
              | inl f ↦ (λ i. in_sector (position_of new q) (position_of new d) (position_of new (e i)) (position_of new (f i))) ∙ in_sector-last_border (position_of new q) (position_of new d) b
              | inr r_other ↦
                  (λ i. in_sector (stands.position i) ((ap (position_of new) d_y ∙ others y y_other) i) (position_of new (e i)) (others r r_other i)) ∙ clear-first r k r_other
            ]
        | inr c_other ↦ elim (cases_eq r p) [
          | inl f ↦ (λ i. in_sector (stands.position i) (others d d_other i) (others c c_other i) (position_of new (f i))) ∙ clear-of_moved c d h c_other d_other
          | inr r_other ↦ clear-elsewhere c d r h k c_other d_other r_other
        ]
      ]
    ])

-- ---- An edit that moved one point

module _ (old new : Map) (t : Touched) (v : Moved) (valid : IsValid old) (whole : HasWholeRings new) (touched : IsTouched old new t) (moved : t.moved ≡ Some v)
    (at_points : AllByRecursion (HasEmptyCornersAt new) t.points) where
  others-stand : (r : ℕ) → r ≢ v.point → position_of new r ≡ position_of old r
  others-stand r other = elim (subst (λ (o : Option Moved). IfSome o (λ v. ComesByMove old new v ⊎ ComesBySplit old new v)) moved touched.moved) [
    | inl move ↦ move.elsewhere r other
    | inr split ↦ sym (split.straight.elsewhere r other)
  ]

  -- the corners at a neighbour that sees the point between the same two strings as before
  pub stayed-empty : (q x y : ℕ) → AreBeyond new v.point q x y → in_sector (position_of new q) (position_of new y) (position_of new x) (position_of new v.point) ≡ true → HasEmptyCornersAt new q
  stayed-empty q x y beyond between = elim (touched.points q (corner-points new whole (corner x q v.point) beyond.comes).1) [
    | inl named ↦ All-at_each (HasEmptyCornersAt new) t.points q at_points named
    | inr stands ↦ empty-stayed old new valid v.point others-stand q stands whole x y beyond between
  ]

  -- a neighbour that stands is at the other end of one of the point's strings
  spoke-back : (q : ℕ) → PointStands old new q → Leads old valid q v.point → (s : StringRow) × Contains (strings_at new v.point) s × (far_end s v.point ≡ q)
  spoke-back q stands k =
      let p = v.point in
      let apart = two_ends old valid k.0 q p k.1 in
      let told = Contains-map (λ s. far_end s q) (strings_at old q) k.0 (Contains-filter (λ s. is_end s q) old.strings k.0 k.1.there (joins-end k.0 q p k.1.joins)) in
      let was = subst (Contains (neighbours old q)) (joins-far_end k.0 q p apart k.1.joins) told in
      let s = map-Contains (λ s. far_end s q) (strings_at new q) p ((stands.strings p).1 was) in
      let f = filter-Contains (λ s. is_end s q) new.strings s.0 s.1 in
      let back = joins-turned s.0 q p (subst (Joins s.0 q) s.2 (joins-far s.0 q f.1)) in
      (s.0, Contains-filter (λ s. is_end s p) new.strings s.0 f.0 (joins-end s.0 p q back), joins-far_end s.0 p q (λ e. apart (sym e)) back)

  -- all corners are empty where those at its neighbours are
  round-empty : HasEmptyCornersRound new v.point → (c : Corner) → Contains (all_corners new) c → IsTrue (is_empty_corner new c)
  round-empty ends c h = elim (touched.points c.at (corner-points new whole c h).1) [
    | inl named ↦ All-at_each (HasEmptyCornersAt new) t.points c.at at_points named c h refl
    | inr stands ↦ by (list_any leads (strings_at new v.point)) refl stands
  ]
    where
      leads : StringRow → Bool
      leads s = far_end s v.point == c.at

      by : (some : Bool) → list_any leads (strings_at new v.point) ≡ some → PointStands old new c.at → IsTrue (is_empty_corner new c)
      by true is stands = let s = list_any-found leads (strings_at new v.point) is in ends s.0 s.1 c h (sym (eqb-true (far_end s.0 v.point) c.at s.2))
      by false is stands = empty-elsewhere old new valid v.point others-stand c.at stands (λ k.
          let s = spoke-back c.at stands k in
          true≢false (sym (list_any-Contains leads (strings_at new v.point) s.0 s.1 (eq-eqb (far_end s.0 v.point) c.at s.2)) ∙ is)) c h refl

-- Where one point moved, V6 holds if the corners at touched points, and at the far ends of its strings, are empty.
pub stayed-corners : (old new : Map) (t : Touched) (v : Moved) → IsValid old → HasWholeRings new → IsTouched old new t → t.moved ≡ Some v
    → AllByRecursion (HasEmptyCornersAt new) t.points × HasEmptyCornersRound new v.point ↔ IsTrue (has_empty_corners new)
stayed-corners old new t v valid whole touched moved = (
  (λ tests. list_all-from (is_empty_corner new) (all_corners new) (round-empty old new t v valid whole touched moved tests.0 tests.1)),
  (λ v6. (
    All-from_each (HasEmptyCornersAt new) t.points (λ p _ c h is. list_all-at (is_empty_corner new) (all_corners new) c v6 h),
    (λ s _ c h is. list_all-at (is_empty_corner new) (all_corners new) c v6 h),
  )),
)
