-- The table of a map with a point, and then without it: the string past the point is in the place of
-- the path through it.
use Rattle.std.proofs.Common.{◌≡◌, ◌≢◌, ℕ, ◌⊎◌, inl, inr, refl, sym, ap, subst, ◌∙◌, ◌∷◌}
use Rattle.std.specs.List.{AllByRecursion, Contains}
use Rattle.std.proofs.lemmas.List.Sorted.{IsPermutation-sym}
use Rattle.cad_rings.specs.Cycle.{Side, Corner}
use Rattle.cad_rings.specs.Surgery.{corner}
use Rattle.cad_map.specs.Map.{Map, all_sides}
use Rattle.cad_map.specs.Views.{ComesAfter}
use Rattle.cad_map.proofs.CallerLemmas.{All-at_each, All-permuted}
use Rattle.half_table.specs.declared.half.Half.{Half}
use Rattle.half_table.specs.Half.{twin}
use Rattle.half_table.specs.Rows.{HalfRows, IsLinked, next, origin_of}
use Rattle.half_table.specs.Surgery.{KeepsHalves}
use Rattle.half_table.proofs.Halves.{is_half-other, twin-twin}
use Rattle.half_paths.specs.Rerouted.{LeadsOn}
use Rattle.cad_laws.specs.Local.{IsShown, IsLocal, side_by, beyond}
use Rattle.cad_laws.specs.Tables.{GoesOnJoined}
use Rattle.cad_laws.proofs.CallerLemmas.{goes-on_joined, to-point}
use Rattle.map_parts.specs.Parts.{HasHalves}
use Rattle.map_parts.specs.Passing.{HasBetween}
use Rattle.map_parts.specs.declared.edits.passing.Passing.{Passing}
use Rattle.map_parts.proofs.IslandFits.{ends-same}
use Rattle.map_parts.proofs.Passing.Routes.{IsPastNow}
use Rattle.map_parts.proofs.Passing.Local.{never-twin, GoesOn, goes-on, local-from, string-half_side}
use Rattle.map_parts.proofs.Passing.Between as between
use Rattle.map_parts.proofs.Passing.Between.{LeadBetween, IsThrough, IsPast, IsOther, twin-side}

module _ {through past : Map} {p a b : ℕ} {passing : Passing}
    (it : HasBetween through past p a b passing) (rows : HalfRows) (local : IsLocal through rows)
    (ends : AllByRecursion (HasHalves rows) through.strings)
    (whole_there : HasHalves rows it.whole_row) where
  abbrev f : Half → Half
  f = next rows

  abbrev o : Half → ℕ
  o = origin_of rows

  pub first_there : HasHalves rows it.first_row
  first_there =
      All-at_each (HasHalves rows) through.strings it.first_row ends
      (between.first-in it)

  pub second_there : HasHalves rows it.second_row
  second_there =
      All-at_each (HasHalves rows) through.strings it.second_row ends
      (between.second-in it)

  pub ways : LeadBetween rows p a b passing
  ways = between.ways it rows first_there second_there whole_there

  x-shown : IsShown through passing.first
  x-shown = between.first-shown it passing.first refl

  tx-shown : IsShown through (twin passing.first)
  tx-shown = between.first-shown it (twin passing.first) refl

  y-shown : IsShown through passing.second
  y-shown = between.second-shown it passing.second refl

  ty-shown : IsShown through (twin passing.second)
  ty-shown = between.second-shown it (twin passing.second) refl

  -- ---- The path leads on, there and back

  -- the corner at the point after the first half, and after the second one's way back
  at-point : (h : Half) (u v : ℕ) → IsShown through h → side_by rows h ≡ (u, p)
      → ((u ≡ a) × (v ≡ b)) ⊎ ((u ≡ b) × (v ≡ a)) → beyond rows h ≡ v
  at-point h u v shown is which =
      let c = subst (λ (s : Side). ComesAfter through s (beyond rows h)) is (local.corners h shown) in
      elim (it.joined.at_point (corner u p (beyond rows h)) c refl) [
        | inl e ↦ elim which [
          | inl w ↦ ap (λ (d : Corner). d.after) e ∙ sym w.1
          | inr w ↦ absurd (it.joined.apart (sym (ap (λ (d : Corner). d.before) e) ∙ w.0))
        ]
        | inr e ↦ elim which [
          | inl w ↦ absurd (it.joined.apart (sym w.0 ∙ ap (λ (d : Corner). d.before) e))
          | inr w ↦ ap (λ (d : Corner). d.after) e ∙ sym w.1
        ]
      ]

  pub on-path : f passing.first ≡ passing.second
  on-path =
      let at : o (f passing.first) ≡ p = local.meets passing.first x-shown ∙ ap (λ (s : Side). s.1) ways.first in
      local.apart (f passing.first) passing.second (local.inside passing.first x-shown) y-shown
      ((λ i. (at i, at-point passing.first a b x-shown ways.first (inl (refl, refl)) i)) ∙ sym ways.second)

  pub back-path : f (twin passing.second) ≡ twin passing.first
  back-path =
      let at : o (f (twin passing.second)) ≡ p = local.meets (twin passing.second) ty-shown ∙ ap (λ (s : Side). s.1) ways.second_back in
      local.apart (f (twin passing.second)) (twin passing.first) (local.inside (twin passing.second) ty-shown) tx-shown
      ((λ i. (at i, at-point (twin passing.second) b a ty-shown ways.second_back (inr (refl, refl)) i)) ∙ sym ways.first_back)

  -- a half begins where the one before it ends
  begins : (h g : Half) → IsShown through h → f h ≡ g → (side_by rows g).0 ≡ (side_by rows h).1
  begins h g shown e = sym (ap o e) ∙ local.meets h shown

  turns : (h : Half) → IsShown through h → f h ≢ twin h
  turns = never-twin rows through it.rings local

  not-y_x : f passing.second ≢ passing.first
  not-y_x e = it.joined.apart (sym (ap (λ (s : Side). s.0) ways.first) ∙ begins passing.second passing.first y-shown e ∙ ap (λ (s : Side). s.1) ways.second)

  not-tx_ty : f (twin passing.first) ≢ twin passing.second
  not-tx_ty e = it.joined.apart (sym (sym (ap (λ (s : Side). s.0) ways.second_back) ∙ begins (twin passing.first) (twin passing.second) tx-shown e ∙ ap (λ (s : Side). s.1) ways.first_back))

  not-tx_x : f (twin passing.first) ≢ passing.first
  not-tx_x e = turns (twin passing.first) tx-shown (e ∙ sym (twin-twin passing.first))

  pub leads : LeadsOn passing.first passing.second f
  leads = record {
    goes_on = is_half-other (f passing.second) (twin passing.second) (turns passing.second y-shown);
    no_ring = is_half-other (f passing.second) passing.first not-y_x;
    goes_back = is_half-other (f (twin passing.first)) passing.first not-tx_x;
    no_ring_back = is_half-other (f (twin passing.first)) (twin passing.second) not-tx_ty;
  }

  -- ---- A half elsewhere has nothing of the point

  module _ (h : Half) (k : IsOther it h) where
    shown : IsShown through h
    shown = between.other-through it h k

    among : Contains (all_sides through) (side_by rows h)
    among =
        string-half_side through it.rings rows k.row
        (between.other-in_through it k.row k.there)
        (All-at_each (HasHalves rows) through.strings k.row ends
        (between.other-in_through it k.row k.there)) h k.number

    pub ends-elsewhere : (side_by rows h).1 ≢ p
    ends-elsewhere e =
        let s : side_by rows h ≡ (o h, p) = λ i. (o h, e i) in
        elim (to-point through past p a b it.joined it.rings (o h) (subst (Contains (all_sides through)) s among)) [
          | inl is ↦
              between.not-first it h k
              (ap (λ (q : Half). q.string) (local.apart h passing.first shown x-shown (s ∙ (λ i. (is i, p)) ∙ sym ways.first)))
          | inr is ↦
              between.not-second it h k
              (ap (λ (q : Half). q.string) (local.apart h (twin passing.second) shown ty-shown (s ∙ (λ i. (is i, p)) ∙ sym ways.second_back)))
        ]

  other-twin : (h : Half) → IsOther it h → IsOther it (twin h)
  other-twin h k = record { row = k.row; there = k.there; number = k.number }

  pub begins-elsewhere : (h : Half) → IsOther it h → (side_by rows h).0 ≢ p
  begins-elsewhere h k e =
      ends-elsewhere (twin h) (other-twin h k) (ap (λ (s : Side). s.1) (twin-side rows h) ∙ e)

  -- ---- The string in its place

  module _ (new : HalfRows) (keeps : KeepsHalves rows new) (linked : IsLinked new)
      (now : IsPastNow passing.first passing.second passing.whole f (next new)) where
    gone : GoesOnJoined through past rows p a b
    gone = goes-on_joined through past rows local p a b it.joined

    abbrev Goes : Half → Type 0
    Goes h = GoesOn rows new keeps past h

    -- what comes after the path
    after-y : IsOther it (f passing.second)
    after-y = elim (between.through-half it (f passing.second) (local.inside passing.second y-shown)) [
      | IsThrough.is_first e ↦ absurd (not-y_x e)
      | IsThrough.is_first_back e ↦
          absurd (between.b-p it (sym (ap (λ (s : Side). s.1) ways.second) ∙ sym (begins passing.second (twin passing.first) y-shown e) ∙ ap (λ (s : Side). s.0) ways.first_back))
      | IsThrough.is_second e ↦
          absurd (between.b-p it (sym (ap (λ (s : Side). s.1) ways.second) ∙ sym (begins passing.second passing.second y-shown e) ∙ ap (λ (s : Side). s.0) ways.second))
      | IsThrough.is_second_back e ↦ absurd (turns passing.second y-shown e)
      | IsThrough.is_other k ↦ k
    ]

    after-tx : IsOther it (f (twin passing.first))
    after-tx = elim (between.through-half it (f (twin passing.first)) (local.inside (twin passing.first) tx-shown)) [
      | IsThrough.is_first e ↦ absurd (not-tx_x e)
      | IsThrough.is_first_back e ↦
          absurd (between.a-p it (sym (ap (λ (s : Side). s.1) ways.first_back) ∙ sym (begins (twin passing.first) (twin passing.first) tx-shown e) ∙ ap (λ (s : Side). s.0) ways.first_back))
      | IsThrough.is_second e ↦
          absurd (between.a-p it (sym (ap (λ (s : Side). s.1) ways.first_back) ∙ sym (begins (twin passing.first) passing.second tx-shown e) ∙ ap (λ (s : Side). s.0) ways.second))
      | IsThrough.is_second_back e ↦ absurd (not-tx_ty e)
      | IsThrough.is_other k ↦ k
    ]

    goes-whole : Goes passing.whole
    goes-whole =
        goes-on rows new keeps past passing.whole (f passing.second) now.whole
        (between.other-past it (f passing.second) after-y)
        (local.meets passing.second y-shown ∙ ap (λ (s : Side). s.1) ways.second ∙ sym (ap (λ (s : Side). s.1) ways.whole))
        (subst (λ (s : Side). ComesAfter past s (beyond rows passing.second)) (sym ways.whole) (gone.from_second passing.second y-shown ways.second))

    goes-whole_back : Goes (twin passing.whole)
    goes-whole_back =
        goes-on rows new keeps past (twin passing.whole) (f (twin passing.first)) now.whole_back
        (between.other-past it (f (twin passing.first)) after-tx)
        (local.meets (twin passing.first) tx-shown ∙ ap (λ (s : Side). s.1) ways.first_back ∙ sym (ap (λ (s : Side). s.1) ways.whole_back))
        (subst (λ (s : Side). ComesAfter past s (beyond rows (twin passing.first))) (sym ways.whole_back)
        (gone.from_first (twin passing.first) tx-shown ways.first_back))

    module _ (h : Half) (k : IsOther it h) where
      to-string : f h ≡ passing.first → Goes h
      to-string e =
          goes-on rows new keeps past h passing.whole (now.enters h e)
          (between.whole-shown it passing.whole refl)
          (ap (λ (s : Side). s.0) ways.whole ∙ sym (ap (λ (s : Side). s.0) ways.first) ∙ begins h passing.first (shown h k) e)
          (subst (λ (w : ℕ). ComesAfter past (side_by rows h) w) (sym (ap (λ (s : Side). s.1) ways.whole))
          (gone.to_first h (shown h k) (ap (side_by rows) e ∙ ways.first)))

      to-string_back : f h ≡ twin passing.second → Goes h
      to-string_back e =
          goes-on rows new keeps past h (twin passing.whole) (now.returns h e)
          (between.whole-shown it (twin passing.whole) refl)
          (ap (λ (s : Side). s.0) ways.whole_back ∙ sym (ap (λ (s : Side). s.0) ways.second_back) ∙ begins h (twin passing.second) (shown h k) e)
          (subst (λ (w : ℕ). ComesAfter past (side_by rows h) w) (sym (ap (λ (s : Side). s.1) ways.whole_back))
          (gone.to_second h (shown h k) (ap (side_by rows) e ∙ ways.second_back)))

      to-other : IsOther it (f h) → Goes h
      to-other far =
          let not-x = between.not-first it (f h) far in
          let not-y = between.not-second it (f h) far in
          goes-on rows new keeps past h (f h)
          (now.others h (between.not-first it h k)
          (between.not-second it h k)
          (between.not-whole it h k)
          (λ e. not-x (ap (λ (q : Half). q.string) e)) (λ e. not-y (ap (λ (q : Half). q.string) e)))
          (between.other-past it (f h) far) (local.meets h (shown h k))
          (gone.stays h (shown h k) (begins-elsewhere h k) (ends-elsewhere h k)
          (ends-elsewhere (f h) far))

      goes-other : Goes h
      goes-other =
          elim (between.through-half it (f h) (local.inside h (shown h k))) [
            | IsThrough.is_first e ↦ to-string e
            | IsThrough.is_first_back e ↦
                absurd (ends-elsewhere h k (sym (begins h (twin passing.first) (shown h k) e) ∙ ap (λ (s : Side). s.0) ways.first_back))
            | IsThrough.is_second e ↦
                absurd (ends-elsewhere h k (sym (begins h passing.second (shown h k) e) ∙ ap (λ (s : Side). s.0) ways.second))
            | IsThrough.is_second_back e ↦ to-string_back e
            | IsThrough.is_other far ↦ to-other far
          ]

    goes : (h : Half) → IsShown past h → Goes h
    goes h shown = elim (between.past-half it h shown) [
      | IsPast.is_whole e ↦ subst Goes (sym e) goes-whole
      | IsPast.is_whole_back e ↦ subst Goes (sym e) goes-whole_back
      | IsPast.is_elsewhere k ↦ goes-other h k
    ]

    pub past-ends : AllByRecursion (HasHalves new) past.strings
    past-ends =
        ends-same rows new keeps.origin keeps.has past.strings
        (All-permuted (HasHalves rows) (it.whole_row ∷ it.others) past.strings (IsPermutation-sym past.strings (it.whole_row ∷ it.others) it.strings_past)
        (whole_there, (All-permuted (HasHalves rows) through.strings (it.first_row ∷ it.second_row ∷ it.others) it.strings ends).1.1))

    pub past-local : IsLocal past new
    past-local = local-from rows new keeps past it.rings_past linked past-ends goes
