use Rattle.std.proofs.Common.{◌≤◌, ◌∙◌, ap, sym, subst}
use Rattle.std.specs.Prelude.{◌≡◌, Result, Ok, Err, IsErr, IsErrAnd, IfOk, IfErr}
use Rattle.cad_rows.specs.declared.edits.Edit.{Edit}
use Rattle.cad_rows.specs.declared.refusals.Refusal.{Refusal}
use Rattle.cad_map.specs.Costs.{weight_bound, work_bound}
use Rattle.cad_map.specs.Effects.{after}
use Rattle.cad_map.specs.Map.{Map}
use Rattle.cad_map.specs.Outcome.{MayRefuse, refused, at_once}
use Rattle.cad_map.specs.Refusals.{first_refusal}
use Rattle.cad_map.specs.Valid.{IsValid}
use Rattle.cad_laws.specs.Tried.{IsTried}
use Rattle.map_parts.specs.Parts.{map_of}
use Rattle.edit_records.specs.Record.{weight}
use Rattle.edit_records.specs.declared.record.SmallRecord.{SmallRecord}
use Rattle.cad_surgery.specs.Work.{TakesWork}
use Rattle.cad_surgery.proofs.Weights.{weight-ok}
use Rattle.cad_surgery.proofs.half_map_edits.HalfMapMapStore.apply.Goals as goal

-- a refusal that is passed on may be one
passes-on : {m : Map} {e : Edit} {why : Refusal} (r : Result SmallRecord Refusal) → IsErr r × IsErrAnd r (λ f. f ≡ why)
    → MayRefuse m e why → IfErr r (MayRefuse m e)
passes-on (Ok a) is may = tt
passes-on {m = m} {e = e} (Err f) is may = subst (MayRefuse m e) (sym is.1) may

pub returns-in_err-found-clause-refused : goal.returns-in_err-found-clause-refused
returns-in_err-found-clause-refused g c =
    passes-on c.from_residual.result c.from_residual.ensures
    (refused (at_once (ap (λ d. first_refusal (map_of d) c.args.edit.now) (sym c.self.view_is) ∙ c.in_err-found.ensures.refused)))

pub returns-clause-weight : goal.returns-clause-weight
returns-clause-weight g c =
    let m = map_of c.self.inside.draft in
    let e = c.args.edit.now in
    let tried : IsTried m e = record {
      valid = subst (λ d. IsValid (map_of d)) (sym c.self.view_is) c.requires.valid;
      given = c.are_in_range.ensures;
      allowed = c.in_ok-found.ensures.allowed;
    } in
    subst (λ d. IfOk c.play.result (λ r. weight r ≤ weight_bound (map_of d) (map_of c.play.new.draft))) c.self.view_is
    (weight-ok m (map_of c.play.new.draft) e tried c.play.result c.play.ensures.edit c.play.ensures.holds c.play.ensures.made)

pub returns-clause-work : goal.returns-clause-work
returns-clause-work g c =
    subst (λ d. TakesWork d.table c.play.new.draft.table (work_bound (map_of d) (after (map_of d) c.args.edit.now))) c.self.view_is c.play.ensures.work
