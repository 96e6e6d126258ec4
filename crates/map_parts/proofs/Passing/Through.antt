-- The table of a map without a point, and then with it: the path through the point is in the place
-- of the string past it.
use Rattle.std.proofs.Common.{◌≡◌, ◌≢◌, ℕ, refl, sym, ap, subst, ◌∙◌, ◌∷◌}
use Rattle.std.specs.List.{AllByRecursion, Contains}
use Rattle.std.proofs.lemmas.List.Sorted.{IsPermutation-sym}
use Rattle.cad_rings.specs.Cycle.{Side}
use Rattle.cad_map.specs.Map.{Map, all_sides}
use Rattle.cad_map.specs.Views.{ComesAfter}
use Rattle.cad_map.proofs.CallerLemmas.{All-at_each, All-permuted}
use Rattle.half_table.specs.declared.half.Half.{Half}
use Rattle.half_table.specs.Half.{twin}
use Rattle.half_table.specs.Rows.{HalfRows, IsLinked, next, origin_of}
use Rattle.half_table.specs.Surgery.{KeepsHalves}
use Rattle.half_table.proofs.Halves.{is_half-other, other-is_half, twin-twin}
use Rattle.half_paths.specs.Rerouted.{LeadsOn}
use Rattle.cad_laws.specs.Local.{IsShown, IsLocal, side_by, beyond}
use Rattle.cad_laws.specs.Tables.{GoesOnSplit}
use Rattle.cad_laws.proofs.CallerLemmas.{goes-on_split}
use Rattle.map_parts.specs.Parts.{HasHalves}
use Rattle.map_parts.specs.Passing.{HasBetween}
use Rattle.map_parts.specs.declared.edits.passing.Passing.{Passing}
use Rattle.map_parts.proofs.IslandFits.{ends-same}
use Rattle.map_parts.proofs.Passing.Routes.{IsThroughNow}
use Rattle.map_parts.proofs.Passing.Local.{never-twin, GoesOn, goes-on, local-from, string-half_side}
use Rattle.map_parts.proofs.Passing.Between as between
use Rattle.map_parts.proofs.Passing.Between.{LeadBetween, IsThrough, IsPast, IsOther}

module _ {through past : Map} {p a b : ℕ} {passing : Passing}
    (it : HasBetween through past p a b passing) (rows : HalfRows) (local : IsLocal past rows)
    (ends : AllByRecursion (HasHalves rows) past.strings) (first_there : HasHalves rows it.first_row)
    (second_there : HasHalves rows it.second_row) where
  abbrev f : Half → Half
  f = next rows

  abbrev o : Half → ℕ
  o = origin_of rows

  pub whole_there : HasHalves rows it.whole_row
  whole_there =
      All-at_each (HasHalves rows) past.strings it.whole_row ends
      (between.whole-in it)

  pub ways : LeadBetween rows p a b passing
  ways = between.ways it rows first_there second_there whole_there

  z-shown : IsShown past passing.whole
  z-shown = between.whole-shown it passing.whole refl

  tz-shown : IsShown past (twin passing.whole)
  tz-shown = between.whole-shown it (twin passing.whole) refl

  -- ---- The string past the point leads on to others

  turns : (h : Half) → IsShown past h → f h ≢ twin h
  turns = never-twin rows past it.rings_past local

  stands : (h : Half) → IsShown past h → (side_by rows h).0 ≢ (side_by rows h).1 → f h ≢ h
  stands h shown two e = two (sym (ap o e) ∙ local.meets h shown)

  pub leads : LeadsOn passing.whole passing.whole f
  leads = record {
    goes_on = is_half-other (f passing.whole) (twin passing.whole) (turns passing.whole z-shown);
    no_ring =
        is_half-other (f passing.whole) passing.whole
        (stands passing.whole z-shown (λ e. it.joined.apart (sym (ap (λ (s : Side). s.0) ways.whole) ∙ e ∙ ap (λ (s : Side). s.1) ways.whole)));
    goes_back =
        is_half-other (f (twin passing.whole)) passing.whole
        (λ e. turns (twin passing.whole) tz-shown (e ∙ sym (twin-twin passing.whole)));
    no_ring_back =
        is_half-other (f (twin passing.whole)) (twin passing.whole)
        (stands (twin passing.whole) tz-shown (λ e. it.joined.apart (sym (sym (ap (λ (s : Side). s.0) ways.whole_back) ∙ e ∙ ap (λ (s : Side). s.1) ways.whole_back))));
  }

  -- ---- The path in its place

  module _ (new : HalfRows) (keeps : KeepsHalves rows new) (linked : IsLinked new)
      (now : IsThroughNow passing.first passing.second passing.whole f (next new)) where
    gone : GoesOnSplit through past rows p a b
    gone = goes-on_split through past rows local p a b it.joined it.rings it.rings_past it.look

    abbrev Goes : Half → Type 0
    Goes h = GoesOn rows new keeps through h

    -- what comes after the string, one way or the other, is elsewhere
    elsewhere : (h : Half) → (f h ≡ passing.whole → ⊥) → (f h ≡ twin passing.whole → ⊥) → IsShown past h → IsOther it (f h)
    elsewhere h not_z not_tz shown =
        elim (between.past-half it (f h) (local.inside h shown)) [
          | IsPast.is_whole e ↦ absurd (not_z e)
          | IsPast.is_whole_back e ↦ absurd (not_tz e)
          | IsPast.is_elsewhere k ↦ k
        ]

    goes-first : Goes passing.first
    goes-first =
        goes-on rows new keeps through passing.first passing.second now.first
        (between.second-shown it passing.second refl)
        (ap (λ (s : Side). s.0) ways.second ∙ sym (ap (λ (s : Side). s.1) ways.first))
        (subst (λ (t : Side × ℕ). ComesAfter through t.0 t.1)
        (λ i. (sym ways.first i, sym (ap (λ (s : Side). s.1) ways.second) i)) it.joined.first_there)

    goes-second_back : Goes (twin passing.second)
    goes-second_back =
        goes-on rows new keeps through (twin passing.second) (twin passing.first) now.second_back
        (between.first-shown it (twin passing.first) refl)
        (ap (λ (s : Side). s.0) ways.first_back ∙ sym (ap (λ (s : Side). s.1) ways.second_back))
        (subst (λ (t : Side × ℕ). ComesAfter through t.0 t.1)
        (λ i. (sym ways.second_back i, sym (ap (λ (s : Side). s.1) ways.first_back) i)) it.joined.second_there)

    goes-second : Goes passing.second
    goes-second =
        let k =
        elsewhere passing.whole (λ e. other-is_half (f passing.whole) passing.whole leads.no_ring e)
        (λ e. other-is_half (f passing.whole) (twin passing.whole) leads.goes_on e) z-shown in
        goes-on rows new keeps through passing.second (f passing.whole) now.second
        (between.other-through it (f passing.whole) k)
        (local.meets passing.whole z-shown ∙ ap (λ (s : Side). s.1) ways.whole ∙ sym (ap (λ (s : Side). s.1) ways.second))
        (subst (λ (s : Side). ComesAfter through s (beyond rows passing.whole)) (sym ways.second) (gone.from_second passing.whole z-shown ways.whole))

    goes-first_back : Goes (twin passing.first)
    goes-first_back =
        let k =
        elsewhere (twin passing.whole) (λ e. other-is_half (f (twin passing.whole)) passing.whole leads.goes_back e)
        (λ e. other-is_half (f (twin passing.whole)) (twin passing.whole) leads.no_ring_back e) tz-shown in
        goes-on rows new keeps through (twin passing.first) (f (twin passing.whole)) now.first_back
        (between.other-through it (f (twin passing.whole)) k)
        (local.meets (twin passing.whole) tz-shown ∙ ap (λ (s : Side). s.1) ways.whole_back ∙ sym (ap (λ (s : Side). s.1) ways.first_back))
        (subst (λ (s : Side). ComesAfter through s (beyond rows (twin passing.whole))) (sym ways.first_back)
        (gone.from_first (twin passing.whole) tz-shown ways.whole_back))

    module _ (h : Half) (k : IsOther it h) where
      shown : IsShown past h
      shown = between.other-past it h k

      there : Contains (all_sides through) (side_by rows h)
      there =
          string-half_side through it.rings rows k.row
          (between.other-in_through it k.row k.there)
          (All-at_each (HasHalves rows) past.strings k.row ends
          (between.other-in_past it k.row k.there)) h k.number

      to-path : f h ≡ passing.whole → Goes h
      to-path e =
          goes-on rows new keeps through h passing.first (now.enters h e)
          (between.first-shown it passing.first refl)
          (ap (λ (s : Side). s.0) ways.first ∙ sym (ap (λ (s : Side). s.0) ways.whole) ∙ sym (ap o e) ∙ local.meets h shown)
          (subst (λ (w : ℕ). ComesAfter through (side_by rows h) w) (sym (ap (λ (s : Side). s.1) ways.first))
          (gone.to_first h shown there (ap (side_by rows) e ∙ ways.whole)))

      to-path_back : f h ≡ twin passing.whole → Goes h
      to-path_back e =
          goes-on rows new keeps through h (twin passing.second) (now.returns h e)
          (between.second-shown it (twin passing.second) refl)
          (ap (λ (s : Side). s.0) ways.second_back ∙ sym (ap (λ (s : Side). s.0) ways.whole_back) ∙ sym (ap o e) ∙ local.meets h shown)
          (subst (λ (w : ℕ). ComesAfter through (side_by rows h) w) (sym (ap (λ (s : Side). s.1) ways.second_back))
          (gone.to_second h shown there (ap (side_by rows) e ∙ ways.whole_back)))

      to-other : IsOther it (f h) → Goes h
      to-other far =
          let apart = between.not-whole it (f h) far in
          let not_z : f h ≢ passing.whole = λ e. apart (ap (λ (q : Half). q.string) e) in
          let not_tz : f h ≢ twin passing.whole = λ e. apart (ap (λ (q : Half). q.string) e) in
          let inside = local.inside h shown in
          goes-on rows new keeps through h (f h)
          (now.others h (between.not-first it h k)
          (between.not-second it h k)
          (between.not-whole it h k) not_z not_tz)
          (between.other-through it (f h) far) (local.meets h shown)
          (gone.stays h shown there
          (λ e. not_z (local.apart (f h) passing.whole inside z-shown (e ∙ sym ways.whole)))
          (λ e. not_tz (local.apart (f h) (twin passing.whole) inside tz-shown (e ∙ sym ways.whole_back))))

      goes-other : Goes h
      goes-other =
          elim (between.past-half it (f h) (local.inside h shown)) [
            | IsPast.is_whole e ↦ to-path e
            | IsPast.is_whole_back e ↦ to-path_back e
            | IsPast.is_elsewhere far ↦ to-other far
          ]

    goes : (h : Half) → IsShown through h → Goes h
    goes h shown = elim (between.through-half it h shown) [
      | IsThrough.is_first e ↦ subst Goes (sym e) goes-first
      | IsThrough.is_first_back e ↦ subst Goes (sym e) goes-first_back
      | IsThrough.is_second e ↦ subst Goes (sym e) goes-second
      | IsThrough.is_second_back e ↦ subst Goes (sym e) goes-second_back
      | IsThrough.is_other k ↦ goes-other h k
    ]

    pub through-ends : AllByRecursion (HasHalves new) through.strings
    through-ends =
        ends-same rows new keeps.origin keeps.has through.strings
        (All-permuted (HasHalves rows) (it.first_row ∷ it.second_row ∷ it.others) through.strings (IsPermutation-sym through.strings (it.first_row ∷ it.second_row ∷ it.others) it.strings)
        (first_there, (second_there, (All-permuted (HasHalves rows) past.strings (it.whole_row ∷ it.others) it.strings_past ends).1)))

    pub through-local : IsLocal through new
    through-local = local-from rows new keeps through it.rings linked through-ends goes
