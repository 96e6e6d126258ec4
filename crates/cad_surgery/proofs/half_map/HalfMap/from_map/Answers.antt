use Rattle.std.proofs.Common.{◌∙◌, subst, sym, ap}
use Rattle.cad_map.specs.Map.{Map, has_string}
use Rattle.cad_map.specs.Rings.{HasWholeRings}
use Rattle.cad_map.proofs.CallerLemmas.{whole_valid}
use Rattle.map_parts.specs.Parts.{map_of, kept_at}
use Rattle.cad_surgery.specs.Proper.{IsProper}
use Rattle.edit_records.specs.Gridded.{IsGridOf}
use Rattle.cad_surgery.proofs.KeptAreas.{none-holds}
use Rattle.cad_surgery.proofs.ProperParts.{proper}
use Rattle.cad_surgery.proofs.half_map.HalfMap.from_map.Goals as goal

pub invariant_of-result : goal.invariant_of-result
invariant_of-result g c =
    let d = c.in_ok-draft.draft in
    let is = c.in_ok-draft.ensures.is in
    let whole = subst HasWholeRings (sym is) (whole_valid c.args.map c.requires) in
    record {
      rest = record {
        proper = proper d c.in_ok-draft.ensures.fit whole (λ h. c.in_ok-draft.ensures.halves h ∙ ap (λ (m : Map). has_string m h.string) (sym is));
        grid = subst (IsGridOf d.grid) (sym is) c.in_ok-draft.ensures.grid;
      };
      areas = c.keep_areas.ensures (none-holds c.none-areas.result (map_of d) c.none-areas.ensures.none);
    }

pub keep_areas-requires : goal.keep_areas-requires
keep_areas-requires g c = subst HasWholeRings (sym c.in_ok-draft.ensures.is) (whole_valid c.args.map c.requires)

pub returns-clause-proper : goal.returns-clause-proper
returns-clause-proper g c =
    let d = c.in_ok-draft.draft in
    let is = c.in_ok-draft.ensures.is in
    let whole = subst HasWholeRings (sym is) (whole_valid c.args.map c.requires) in
    subst (λ (m : Map). IsProper m d.table.rows (kept_at d)) is
    (proper d c.in_ok-draft.ensures.fit whole (λ h. c.in_ok-draft.ensures.halves h ∙ ap (λ (m : Map). has_string m h.string) (sym is)))
