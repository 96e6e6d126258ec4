-- A split that is taken back on a map on half-edges.
use Rattle.std.proofs.Common.{◌≡◌, ◌≤◌, ◌+◌, ℕ, sym, ap, subst, ◌∙◌, List, [], ◌∷◌, length, true, if◌then◌else◌, arith}
use Rattle.cad_rows.specs.declared.edits.Edit.TheVariants.{Split}
use Rattle.cad_rows.specs.declared.rows.StringRow.{StringRow}
use Rattle.cad_map.specs.Asked.{GivesInRange}
use Rattle.cad_map.specs.Costs.{work_bound}
use Rattle.cad_map.specs.Effects.{after}
use Rattle.cad_map.specs.Map.{Map, has_string}
use Rattle.cad_map.specs.Rings.{HasWholeRings}
use Rattle.cad_map.proofs.CallerLemmas.{whole_valid}
use Rattle.half_table.specs.declared.half.Half.{Half}
use Rattle.half_table.specs.Count.{greatest, ticked}
use Rattle.half_table.specs.Half.{forward_of, backward_of}
use Rattle.half_table.specs.Rows.{Table, has, cycle}
use Rattle.half_paths.specs.Loose.{is_of, DropsStrings}
use Rattle.key_lists.specs.Held.{Held}
use Rattle.cad_laws.specs.Tried.{IsTried}
use Rattle.cad_map.specs.declared.map_rows.MapRows.{MapRows}
use Rattle.map_parts.specs.declared.stars.Spoke.{Spoke}
use Rattle.cad_surgery.specs.declared.draft.Draft.TheInside.{Inside}
use Rattle.cad_surgery.specs.declared.edits.try_split.Halving.{Halving}
use Rattle.map_parts.specs.Parts.{Parts, FitTogether, map_of, kept_at}
use Rattle.cad_surgery.specs.Proper.{IsProper}
use Rattle.edit_records.specs.Record.{IsMadeOf}
use Rattle.map_parts.specs.Splitting.{FitMap, CanBeginUnsplit}
use Rattle.cad_surgery.specs.Halvings.{IsSplitFrom, split_by, split_record}
use Rattle.cad_surgery.specs.Work.{TakesWork}
use Rattle.cad_surgery.proofs.DraftFits.{draft-fits, draft-all, draft-work, settled}
use Rattle.cad_surgery.proofs.LooseBeside.{AreUnseen, no-strings}
use Rattle.cad_surgery.proofs.FitParts.{parts, parts-in, GoWith, at-rest, stand-for}
use Rattle.cad_surgery.proofs.WorkTaken.{ticks-just, ticks-then}
use Rattle.cad_surgery.proofs.SplitDraft.{split-whole_after, whole-free, unsplit-alone, back-hidden, back-different, split-work, whole-few}

module _ {T : Type 0} (inside : Inside T) {v : Parts} (view : parts-in inside ≡ v) (fit : FitTogether (parts-in inside)) (h : Halving)
    {row : StringRow} {place : ℕ} (given : GivesInRange (split_by row.number h)) {m : Map} (from : IsSplitFrom row place h (map_of v) m)
    (rest : IsProper (map_of v) v.table.rows (kept_at v)) where
  abbrev it : IsMadeOf (split_record row place h) m
  it = from.0

  abbrev was : map_of v ≡ after m (split_by row.number h)
  was = from.1

  of : IsTried m (split_by row.number h)
  of = record { valid = it.valid; given = given; allowed = it.allowed }

  abbrev behind : Map
  behind = after m (split_by row.number h)

  behind-whole : HasWholeRings behind
  behind-whole = split-whole_after m h row.number of

  behind-fits : FitMap behind inside.rows inside.table.rows inside.kept inside.stars
  behind-fits =
      subst (λ (q : Map). FitMap q inside.rows inside.table.rows inside.kept inside.stars) was
      (draft-fits inside.rows inside.table inside.kept inside.stars inside.grid v view fit (subst HasWholeRings (sym was) behind-whole))

  behind-all : (g : Half) → has inside.table.rows g ≡ has_string behind g.string
  behind-all g = draft-all inside.rows inside.table inside.kept inside.stars inside.grid v view rest g ∙ ap (λ (q : Map). has_string q g.string) was

  abbrev begun : CanBeginUnsplit row place h.point h.first h.second inside.rows inside.table.rows inside.kept inside.stars
  begun = record {
    map = m;
    x = h.position.x;
    y = h.position.y;
    tried = of;
    at = it.holds;
    fits = behind-fits;
    new = (whole-free m h row.number of inside.table.rows behind-all, tt);
  }

  pub back-begins : CanBeginUnsplit row place h.point h.first h.second inside.rows inside.table.rows inside.kept inside.stars
  back-begins = begun

  module _ {new : MapRows} (t : Table) {put : Held Half} {wide : Held Spoke} where
    -- where memory ran out
    module _ (each : (c : CanBeginUnsplit row place h.point h.first h.second inside.rows inside.table.rows inside.kept inside.stars)
        → FitMap (after c.map (Split row.number h.point c.x c.y h.first h.second)) new t.rows put wide) where
      pub stays : GoWith behind new t put wide
      stays = record { whole = behind-whole; fits = each begun }

      pub stays-rest : t ≡ inside.table → IsProper (map_of (parts new t put wide inside.grid)) t.rows (kept_at (parts new t put wide inside.grid))
      stays-rest same = at-rest inside.grid stays (λ g. ap (λ (l : Table). has l.rows g) same ∙ behind-all g)

    -- where the string is in
    module _ (each : (c : CanBeginUnsplit row place h.point h.first h.second inside.rows inside.table.rows inside.kept inside.stars) → FitMap c.map new t.rows put wide)
        (some : (g : Half) → has t.rows g ≡ (if is_of (row.number ∷ []) g then true else has inside.table.rows g)) where
      pub gone-back : GoWith m new t put wide
      gone-back = record { whole = whole_valid m it.valid; fits = each begun }

      module _ (x y : Half) (are_two : (x ≡ forward_of h.first) × (y ≡ forward_of h.second)) where
        pub in-unseen : AreUnseen (x ∷ y ∷ []) (parts new t put wide inside.grid)
        in-unseen = no-strings inside.grid gone-back (λ i. are_two.0 i ∷ are_two.1 i ∷ []) (back-different m h row.number of) (back-hidden m h row.number of)

        pub in-proper : (d : Parts) → FitTogether d → map_of d ≡ map_of (parts new t put wide inside.grid)
            → DropsStrings (x ∷ y ∷ []) t.rows d.table.rows → IsProper (map_of d) d.table.rows (kept_at d)
        in-proper d d_fit same drops =
            settled d m d_fit (same ∙ (stand-for inside.grid gone-back)) (whole_valid m it.valid)
            (unsplit-alone m h row.number of inside.table.rows behind-all t.rows some d.table.rows
            (subst (λ (l : List Half). DropsStrings l t.rows d.table.rows) (λ i. are_two.0 i ∷ are_two.1 i ∷ []) drops))

      pub in-work : inside.table.work ≤ greatest
          → t.work ≡ ticked (1 + (length (cycle t.rows (forward_of row.number)) + length (cycle t.rows (backward_of row.number)) + 5)) inside.table.work
          → (u : Table) → u.work ≡ ticked 2 t.work → TakesWork v.table u (work_bound m (map_of v))
      in-work within work u one =
          let ring = length (cycle t.rows (forward_of row.number)) + length (cycle t.rows (backward_of row.number)) + 5 in
          let most = split-work m h row.number of in
          let low = whole-few m h row.number of t.rows new put wide gone-back.fits in
          subst (λ (q : Map). TakesWork v.table u (work_bound m q)) (sym was)
          (draft-work inside.rows inside.table inside.kept inside.stars inside.grid v view u (1 + ring + 2) (work_bound m behind) within (omega (arith, most, low))
          (ticks-then inside.table t u (1 + ring) 2 (ticks-just inside.table t (1 + ring) work) (ticks-just t u 2 one)))
