-- A join on a map on half-edges that is taken back by its record.
use Rattle.std.proofs.Common.{◌≡◌, ◌≤◌, ◌+◌, ℕ, sym, ap, subst, ◌∙◌, [], ◌∷◌, length, true, Bool, if◌then◌else◌, arith}
use Rattle.std.specs.Prelude.{Result, Ok, IsErr}
use Rattle.cad_rows.specs.declared.edits.Edit.TheVariants.{Join}
use Rattle.cad_map.specs.Asked.{GivesInRange}
use Rattle.cad_map.specs.Costs.{work_bound}
use Rattle.cad_map.specs.Effects.{after}
use Rattle.cad_map.specs.Map.{Map, has_string}
use Rattle.cad_map.specs.Rings.{HasWholeRings}
use Rattle.cad_map.specs.Valid.{IsValid}
use Rattle.half_table.specs.declared.half.Half.{Half}
use Rattle.half_table.specs.Count.{greatest, ticked}
use Rattle.half_table.specs.Half.{twin, forward_of}
use Rattle.half_table.specs.Rows.{Table, has, cycle}
use Rattle.half_paths.specs.Loose.{is_of, DropsStrings}
use Rattle.key_lists.specs.Held.{Held}
use Rattle.cad_laws.specs.Joining.{FarEndsAreApart}
use Rattle.cad_laws.specs.Tried.{IsTried}
use Rattle.map_parts.specs.declared.edits.join.JoinedRows.{JoinedRows}
use Rattle.cad_map.specs.declared.map_rows.MapRows.{MapRows}
use Rattle.map_parts.specs.declared.stars.Spoke.{Spoke}
use Rattle.map_parts.specs.Joined.{CanBeginUnjoin}
use Rattle.cad_surgery.specs.declared.draft.Draft.TheInside.{Inside}
use Rattle.cad_surgery.specs.Joinings.{join_record}
use Rattle.map_parts.specs.Parts.{Parts, FitTogether, map_of, kept_at}
use Rattle.map_parts.specs.Passing.{path_at}
use Rattle.cad_surgery.specs.Proper.{IsProper}
use Rattle.edit_records.specs.Record.{Belongs}
use Rattle.map_parts.specs.Splitting.{FitMap}
use Rattle.cad_surgery.specs.Trials.{IsTakenBack}
use Rattle.cad_surgery.specs.Work.{TakesWork, TicksUpTo}
use Rattle.cad_surgery.proofs.DraftFits.{draft-fits, draft-all, draft-work, settled}
use Rattle.cad_surgery.proofs.FarEnds.{leads-apart}
use Rattle.cad_surgery.proofs.FitParts.{parts, parts-in, GoWith, at-rest, stand-for}
use Rattle.cad_surgery.proofs.JoinDraft as draft
use Rattle.cad_surgery.proofs.LooseBeside.{AreUnseen, no-strings}
use Rattle.cad_surgery.proofs.Trials.{stays-made}
use Rattle.cad_surgery.proofs.WorkTaken.{ticks-just, ticks-then}

module _ {T : Type 0} (inside : Inside T) {v : Parts} (view : parts-in inside ≡ v) (fit : FitTogether (parts-in inside)) (proper : IsProper (map_of v) v.table.rows (kept_at v))
    (joined : JoinedRows) (new : ℕ) (given : GivesInRange (Join joined.point.number new)) where
  abbrev p : ℕ
  p = joined.point.number

  abbrev Was : Map → Type 0
  Was m = Belongs (join_record joined new) m (map_of v)

  module _ {m : Map} (belongs : Was m) where
    abbrev n : Map
    n = after m (Join p new)

    is : map_of v ≡ n
    is = belongs.leads.is

    pub tried : IsTried m (Join p new)
    tried = record { valid = belongs.valid; given = given; allowed = belongs.leads.allowed }

    pub apart : FarEndsAreApart m (Join p new)
    apart = leads-apart m p new tried (subst IsValid is belongs.leads.valid)

    whole-now : HasWholeRings n
    whole-now = draft.join-whole_after m p new joined.first joined.second tried belongs.holds.strings apart

    whole-before : HasWholeRings m
    whole-before = draft.join-whole_before m p new joined.first joined.second tried belongs.holds.strings apart

    pub fits : FitMap n inside.rows inside.table.rows inside.kept inside.stars
    fits =
        subst (λ (q : Map). FitMap q inside.rows inside.table.rows inside.kept inside.stars) is
        (draft-fits inside.rows inside.table inside.kept inside.stars inside.grid v view fit (subst HasWholeRings (sym is) whole-now))

    pub all : (g : Half) → has inside.table.rows g ≡ has_string n g.string
    all g = draft-all inside.rows inside.table inside.kept inside.stars inside.grid v view proper g ∙ ap (λ (q : Map). has_string q g.string) is

    abbrev pub begins : CanBeginUnjoin joined new inside.rows inside.table.rows inside.kept inside.stars
    begins = draft.back-begins m new joined tried apart belongs.holds inside.rows inside.table.rows inside.kept inside.stars fits all

    -- ticks that are few enough are work within the bound
    in-work : (t : Table) (count : ℕ) → inside.table.work ≤ greatest → count ≤ work_bound m n → TicksUpTo count inside.table t → TakesWork v.table t (work_bound m (map_of v))
    in-work t count within low ticks =
        subst (λ (q : Map). TakesWork v.table t (work_bound m q)) (sym is)
        (draft-work inside.rows inside.table inside.kept inside.stars inside.grid v view t count (work_bound m n) within low ticks)

  module _ {at : MapRows} (t : Table) {put : Held Half} {wide : Held Spoke} where
    -- where memory ran out
    module _ (err : (can : CanBeginUnjoin joined new inside.rows inside.table.rows inside.kept inside.stars) → FitMap (after can.map (Join p new)) at t.rows put wide) where
      pub stays : {m : Map} → Was m → GoWith (after m (Join p new)) at t put wide
      stays belongs = record { whole = whole-now belongs; fits = err (begins belongs) }

      pub left : t.rows ≡ inside.table.rows → inside.table.work ≤ greatest → (count : ℕ) × (count ≤ 2) × (t.work ≡ ticked count inside.table.work)
          → {A E : Type 0} {r : Result A E} → IsErr r → (m : Map) × Was m → IsTakenBack Was v (parts at t put wide inside.grid) r
      left same within ticks {r = r} error made =
          stays-made Was v (parts at t put wide inside.grid) r error (stand-for inside.grid (stays made.1) ∙ sym (is made.1)) (ap (λ (d : Parts). d.grid) view)
          (at-rest inside.grid (stays made.1) (λ g. (λ i. has (same i) g) ∙ all made.1 g))
          (λ m was.
          let few = ticks.1 in
          let most = draft.join-work m p new joined.first joined.second (tried was) was.holds.strings (apart was) in
          in-work was t ticks.0 within (omega (arith, most, few)) (ticks-just inside.table t ticks.0 ticks.2))

    -- where the strings are back
    module _ (ok : (can : CanBeginUnjoin joined new inside.rows inside.table.rows inside.kept inside.stars) → FitMap can.map at t.rows put wide) where
      pub gone-back : {m : Map} → Was m → GoWith m at t put wide
      gone-back belongs = record { whole = whole-before belongs; fits = ok (begins belongs) }

      module _ (more : (g : Half) → has t.rows g ≡ (if is_of (joined.first.number ∷ joined.second.number ∷ []) g then true else has inside.table.rows g))
          (z : Half) (z_is : z ≡ forward_of new) where
        more-of : {m : Map} → Was m → (g : Half) → has t.rows g ≡ (if is_of (joined.first.number ∷ joined.second.number ∷ []) g then true else has_string (after m (Join p new)) g.string)
        more-of belongs g = more g ∙ ap (λ (b : Bool). if is_of (joined.first.number ∷ joined.second.number ∷ []) g then true else b) (all belongs g)

        pub one-unseen : {m : Map} → Was m → AreUnseen (z ∷ []) (parts at t put wide inside.grid)
        one-unseen {m} belongs =
            no-strings inside.grid (gone-back belongs) (λ i. z_is i ∷ [])
            (draft.undo-different m p new joined.first joined.second (tried belongs) belongs.holds.strings (apart belongs))
            (draft.undo-hidden m p new joined.first joined.second (tried belongs) belongs.holds.strings (apart belongs))

        pub done : inside.table.work ≤ greatest
            → t.work ≡ ticked (2 + (length (cycle t.rows (path_at p joined.first joined.second new).first)
            + length (cycle t.rows (twin (path_at p joined.first joined.second new).second)) + 5)) inside.table.work
            → (m : Map) × Was m → (d : Parts) → d ≡ record (parts at t put wide inside.grid) { table = d.table } → FitTogether d → map_of d ≡ map_of (parts at t put wide inside.grid)
            → DropsStrings (z ∷ []) t.rows d.table.rows → d.table.work ≡ ticked (length (z ∷ [])) t.work → {A E : Type 0} {a : A} → IsTakenBack {A = A} {E = E} Was v d (Ok a)
        done within one made d are whole same drops two = record {
          before = λ m was. same ∙ stand-for inside.grid (gone-back was);
          err = tt;
          grid = ap (λ (q : Parts). q.grid) are ∙ ap (λ (q : Parts). q.grid) view;
          proper = settled d made.0 whole (same ∙ stand-for inside.grid (gone-back made.1)) (whole-before made.1)
              (draft.back-alone made.0 p new joined.first joined.second (tried made.1) made.1.holds.strings (apart made.1) t.rows (more-of made.1) d.table.rows
              (subst (λ (w : Half). DropsStrings (w ∷ []) t.rows d.table.rows) z_is drops));
          work = λ m was.
              let path = path_at p joined.first joined.second new in
              let old = length (cycle t.rows path.first) + length (cycle t.rows (twin path.second)) in
              let few = draft.unjoin-few m p new joined.first joined.second (tried was) was.holds.strings (apart was) t.rows at put wide (gone-back was).fits in
              let allowed = draft.join-work m p new joined.first joined.second (tried was) was.holds.strings (apart was) in
              in-work was d.table ((2 + (old + 5)) + 1) within (omega (arith, few, allowed))
              (ticks-then inside.table t d.table (2 + (old + 5)) 1 (ticks-just inside.table t (2 + (old + 5)) one) (ticks-just t d.table 1 two));
        }
