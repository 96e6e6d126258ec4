-- A join that is tried on a map on half-edges, kept or taken back.
use Rattle.std.proofs.Common.{◌≡◌, ◌≤◌, ◌+◌, ◌==◌, ℕ, sym, ap, subst, ◌∙◌, [], ◌∷◌, length, not, true, Bool, if◌then◌else◌, arith}
use Rattle.cad_rows.specs.declared.edits.Edit.TheVariants.{Join}
use Rattle.cad_rows.specs.declared.rows.StringRow.{StringRow}
use Rattle.cad_map.specs.Changes.{by_number}
use Rattle.cad_map.specs.Costs.{work_bound}
use Rattle.cad_map.specs.Effects.{after}
use Rattle.cad_map.specs.Map.{Map, has_string, strings_at}
use Rattle.cad_map.specs.Rings.{HasWholeRings}
use Rattle.cad_map.proofs.CallerLemmas.{whole_valid}
use Rattle.half_table.specs.declared.half.Half.{Half}
use Rattle.half_table.specs.Count.{greatest, ticked}
use Rattle.half_table.specs.Half.{half_of, twin, forward_of, backward_of}
use Rattle.half_table.specs.Rows.{Table, has, next, cycle}
use Rattle.half_paths.specs.Loose.{is_of, AreLoose, DropsStrings}
use Rattle.key_lists.specs.Held.{Held, HasRoomAt}
use Rattle.cad_laws.specs.Joining.{FarEndsAreApart}
use Rattle.cad_laws.specs.Tried.{IsTried}
use Rattle.map_parts.specs.declared.edits.join.JoinedRows.{JoinedRows}
use Rattle.cad_surgery.specs.declared.draft.Draft.TheInside.{Inside}
use Rattle.cad_surgery.specs.declared.edits.joining.Joining.{Joining}
use Rattle.cad_map.specs.declared.map_rows.MapRows.{MapRows}
use Rattle.map_parts.specs.declared.stars.Spoke.{Spoke}
use Rattle.map_parts.specs.Joined.{CanBeginJoin, CanBePutBack, CanUnjoin, HaveJoined}
use Rattle.cad_surgery.specs.Joinings.{IsJoiningAt}
use Rattle.map_parts.specs.Parts.{Parts, FitTogether, HasHalves, map_of, kept_at}
use Rattle.map_parts.specs.Passing.{path_at}
use Rattle.cad_surgery.specs.Proper.{IsProper}
use Rattle.edit_records.specs.Record.{HeldJoined}
use Rattle.cad_map.specs.MapRows.{map_in}
use Rattle.map_parts.specs.Splitting.{FitMap}
use Rattle.cad_surgery.specs.Work.{TakesWork}
use Rattle.cad_surgery.proofs.DraftFits.{draft-fits, draft-all, draft-work, settled}
use Rattle.cad_surgery.proofs.FitParts.{parts, parts-in, GoWith, at-rest, stand-for}
use Rattle.cad_surgery.proofs.JoinDraft as draft
use Rattle.cad_surgery.proofs.LooseBeside.{AreUnseen, no-strings}
use Rattle.cad_surgery.proofs.WorkTaken.{ticks-just, ticks-then}

module _ {T : Type 0} (inside : Inside T) {v : Parts} (view : parts-in inside ≡ v) (fit : FitTogether (parts-in inside)) (p : ℕ) (k : Joining)
    (tried : IsTried (map_of v) (Join p k.row.number)) (apart : FarEndsAreApart (map_of v) (Join p k.row.number))
    (told : IsJoiningAt (map_of v) p k) (proper : IsProper (map_of v) v.table.rows (kept_at v)) where
  abbrev m : Map
  m = map_of v

  abbrev new : ℕ
  new = k.row.number

  abbrev n : Map
  n = after m (Join p new)

  whole : HasWholeRings m
  whole = whole_valid m tried.valid

  pub fits : FitMap m inside.rows inside.table.rows inside.kept inside.stars
  fits = draft-fits inside.rows inside.table inside.kept inside.stars inside.grid v view fit whole

  pub all : (g : Half) → has inside.table.rows g ≡ has_string m g.string
  all = draft-all inside.rows inside.table inside.kept inside.stars inside.grid v view proper

  pub met : (s : StringRow) × (t : StringRow) × (by_number (strings_at m p) ≡ s ∷ t ∷ [])
  met = draft.strings-met m p new tried

  abbrev s : StringRow
  s = met.0

  abbrev t : StringRow
  t = met.1

  pub are : by_number (strings_at m p) ≡ s ∷ t ∷ []
  are = met.2

  abbrev pub begins : CanBeginJoin p k.first k.second k.row inside.rows inside.table.rows inside.kept inside.stars
  begins = draft.join-begins m p k tried apart s t are (told s t are) inside.rows inside.table.rows inside.kept inside.stars fits all

  whole-now : HasWholeRings n
  whole-now = draft.join-whole_after m p new s t tried are apart

  module _ {rows1 : MapRows} (table1 : Table) {held1 : Held Half} {stars1 : Held Spoke} where
    -- where memory ran out
    module _ (err : (can : CanBeginJoin p k.first k.second k.row inside.rows inside.table.rows inside.kept inside.stars) → FitMap can.map rows1 table1.rows held1 stars1) where
      pub left : GoWith m rows1 table1 held1 stars1
      left = record { whole = whole; fits = err begins }

      pub left-rest : table1 ≡ inside.table → IsProper (map_of (parts rows1 table1 held1 stars1 inside.grid)) table1.rows (kept_at (parts rows1 table1 held1 stars1 inside.grid))
      left-rest same = at-rest inside.grid left (λ g. ap (λ (w : Table). has w.rows g) same ∙ all g)

    -- where the strings are joined
    module _ (ok : (can : CanBeginJoin p k.first k.second k.row inside.rows inside.table.rows inside.kept inside.stars)
        → FitMap (after can.map (Join p k.row.number)) rows1 table1.rows held1 stars1) where
      pub gone-through : GoWith n rows1 table1 held1 stars1
      gone-through = record { whole = whole-now; fits = ok begins }

      module _ (joined : JoinedRows) (taken : HaveJoined (map_in inside.rows) p k.first k.second joined)
          (more : (g : Half) → has table1.rows g ≡ (if is_of (k.row.number ∷ []) g then true else has inside.table.rows g)) where
        more-of : (g : Half) → has table1.rows g ≡ (if is_of (new ∷ []) g then true else has_string m g.string)
        more-of g = more g ∙ ap (λ (b : Bool). if is_of (new ∷ []) g then true else b) (all g)

        have : HaveJoined m p k.first k.second joined
        have =
            subst (λ (q : Parts). HaveJoined (map_of q) p k.first k.second joined) view (record {
              point_at = taken.point_at;
              point_found = taken.point_found;
              first_at = taken.first_at;
              first_found = taken.first_found;
              second_at = taken.second_at;
              second_found = taken.second_found;
            })

        pub taken-held : (joined.point.number ≡ p)
            × HeldJoined m joined.point joined.point_place joined.first joined.first_place joined.second joined.second_place
        taken-held =
            draft.joined-held m p k tried apart s t are (told s t are) joined have.point_at have.point_found have.first_at have.first_found have.second_at
            have.second_found

        are-now : by_number (strings_at m p) ≡ joined.first ∷ joined.second ∷ []
        are-now = ap (λ (i : ℕ). by_number (strings_at m i)) (sym taken-held.0) ∙ taken-held.1.strings

        -- ---- The two strings go

        module _ (x y : Half) (x_is : x ≡ half_of joined.first.number (not (joined.first.from == p)))
            (y_is : y ≡ half_of joined.second.number (joined.second.from == p)) where
          pub two-unseen : AreUnseen (x ∷ y ∷ []) (parts rows1 table1 held1 stars1 inside.grid)
          two-unseen =
              no-strings inside.grid gone-through (λ i. x_is i ∷ y_is i ∷ []) (draft.join-different m p new joined.first joined.second tried are-now apart)
              (draft.join-hidden m p new joined.first joined.second tried are-now apart)

          module _ (d : Parts) (fit_now : FitTogether d) (same : map_of d ≡ map_of (parts rows1 table1 held1 stars1 inside.grid))
              (drops : DropsStrings (x ∷ y ∷ []) table1.rows d.table.rows) where
            pub done-proper : IsProper (map_of d) d.table.rows (kept_at d)
            done-proper =
                settled d n fit_now (same ∙ stand-for inside.grid gone-through) whole-now
                (draft.join-alone m p new joined.first joined.second tried are-now apart table1.rows more-of d.table.rows
                (subst (λ (w : Half × Half). DropsStrings (w.0 ∷ w.1 ∷ []) table1.rows d.table.rows) (λ i. (x_is i, y_is i)) drops))

            pub done-work : inside.table.work ≤ greatest
                → table1.work ≡ ticked (1 + (length (cycle table1.rows (forward_of new)) + length (cycle table1.rows (backward_of new)) + 5)) inside.table.work
                → d.table.work ≡ ticked (length (x ∷ y ∷ [])) table1.work
                → TakesWork v.table d.table (work_bound m n)
            done-work within one two =
                let ring = length (cycle table1.rows (forward_of new)) + length (cycle table1.rows (backward_of new)) in
                let few = draft.join-few m p new joined.first joined.second tried are-now apart table1.rows rows1 held1 stars1 gone-through.fits in
                let most = draft.join-work m p new joined.first joined.second tried are-now apart in
                draft-work inside.rows inside.table inside.kept inside.stars inside.grid v view d.table ((1 + (ring + 5)) + 2) (work_bound m n) within
                (omega (arith, few, most))
                (ticks-then inside.table table1 d.table (1 + (ring + 5)) 2 (ticks-just inside.table table1 (1 + (ring + 5)) one) (ticks-just table1 d.table 2 two))

        -- ---- Taken back

        module _ (first_there : HasHalves table1.rows joined.first) (second_there : HasHalves table1.rows joined.second)
            (loose : AreLoose (next table1.rows) ((path_at p joined.first joined.second new).first ∷ (path_at p joined.first joined.second new).second ∷ []))
            (slots : CanBePutBack joined rows1) (room : HasRoomAt stars1 p 2) where
          abbrev pub undoes : CanUnjoin joined new rows1 table1.rows held1 stars1
          undoes =
              let at = sym taken-held.0 in
              draft.undo-begins m new joined (subst (λ (q : ℕ). IsTried m (Join q new)) at tried)
              (subst (λ (q : ℕ). FarEndsAreApart m (Join q new)) at apart) taken-held.1 rows1 table1.rows held1 stars1
              (subst (λ (q : ℕ). FitMap (after m (Join q new)) rows1 table1.rows held1 stars1) at gone-through.fits)
              first_there second_there
              (subst (λ (q : ℕ). AreLoose (next table1.rows) ((path_at q joined.first joined.second new).first
              ∷ (path_at q joined.first joined.second new).second ∷ [])) at loose)
              slots.point_slot slots.first_slot slots.second_slot (subst (λ (q : ℕ). HasRoomAt stars1 q 2) at room)

          module _ {rows2 : MapRows} (table2 : Table) {held2 : Held Half} {stars2 : Held Spoke}
              (each : (can : CanUnjoin joined new rows1 table1.rows held1 stars1) → FitMap can.map rows2 table2.rows held2 stars2) where
            pub gone-back : GoWith m rows2 table2 held2 stars2
            gone-back = record { whole = whole; fits = each undoes }

            module _ (kept : (g : Half) → has table2.rows g ≡ has table1.rows g) (z : Half) (z_is : z ≡ forward_of new) where
              pub one-unseen : AreUnseen (z ∷ []) (parts rows2 table2 held2 stars2 inside.grid)
              one-unseen =
                  no-strings inside.grid gone-back (λ i. z_is i ∷ []) (draft.undo-different m p new joined.first joined.second tried are-now apart)
                  (draft.undo-hidden m p new joined.first joined.second tried are-now apart)

              module _ (d : Parts) (fit_now : FitTogether d) (same : map_of d ≡ map_of (parts rows2 table2 held2 stars2 inside.grid))
                  (drops : DropsStrings (z ∷ []) table2.rows d.table.rows) where
                pub undone-proper : IsProper (map_of d) d.table.rows (kept_at d)
                undone-proper =
                    settled d m fit_now (same ∙ stand-for inside.grid gone-back) whole
                    (draft.undo-alone m p new joined.first joined.second tried are-now apart table2.rows (λ g. kept g ∙ more-of g) d.table.rows
                    (subst (λ (w : Half). DropsStrings (w ∷ []) table2.rows d.table.rows) z_is drops))

                pub undone-work : inside.table.work ≤ greatest
                    → table1.work ≡ ticked (1 + (length (cycle table1.rows (forward_of new)) + length (cycle table1.rows (backward_of new)) + 5)) inside.table.work
                    → table2.work ≡ ticked (length (cycle table2.rows (path_at joined.point.number joined.first joined.second new).first)
                    + length (cycle table2.rows (twin (path_at joined.point.number joined.first joined.second new).second)) + 5) table1.work
                    → d.table.work ≡ ticked (length (z ∷ [])) table2.work
                    → TakesWork v.table d.table (work_bound m n)
                undone-work within one two three =
                    let ring = length (cycle table1.rows (forward_of new)) + length (cycle table1.rows (backward_of new)) in
                    let path = path_at p joined.first joined.second new in
                    let old = length (cycle table2.rows path.first) + length (cycle table2.rows (twin path.second)) in
                    let at = subst (λ (q : ℕ). table2.work ≡ ticked (length (cycle table2.rows (path_at q joined.first joined.second new).first)
                    + length (cycle table2.rows (twin (path_at q joined.first joined.second new).second)) + 5) table1.work) taken-held.0 two in
                    let few = draft.join-few m p new joined.first joined.second tried are-now apart table1.rows rows1 held1 stars1 gone-through.fits in
                    let less = draft.unjoin-few m p new joined.first joined.second tried are-now apart table2.rows rows2 held2 stars2 gone-back.fits in
                    let most = draft.join-work m p new joined.first joined.second tried are-now apart in
                    draft-work inside.rows inside.table inside.kept inside.stars inside.grid v view d.table (((1 + (ring + 5)) + (old + 5)) + 1) (work_bound m n) within
                    (omega (arith, few, less, most))
                    (ticks-then inside.table table2 d.table ((1 + (ring + 5)) + (old + 5)) 1
                    (ticks-then inside.table table1 table2 (1 + (ring + 5)) (old + 5) (ticks-just inside.table table1 (1 + (ring + 5)) one) (ticks-just table1 table2 (old + 5) at))
                    (ticks-just table2 d.table 1 three))
