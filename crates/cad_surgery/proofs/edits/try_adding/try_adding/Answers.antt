use Rattle.std.proofs.Common.{◌∙◌, sym, subst}
use Rattle.cad_rows.specs.declared.edits.Edit.{Edit}
use Rattle.cad_map.specs.Outcome.{out_of_memory}
use Rattle.cad_laws.specs.Tried.{IsTried}
use Rattle.cad_edit.specs.Admitted.{HasCorners}
use Rattle.map_parts.specs.Parts.{map_of}
use Rattle.cad_surgery.specs.Trials.{IsReadyFor, IsTrialOf}
use Rattle.cad_surgery.proofs.Trials.{stays}
use Rattle.cad_surgery.proofs.edits.try_adding.try_adding.Goals as goal

pub returns-in_default : goal.returns-in_default
returns-in_default g c = stays _ _ _ _ c.requires.ready (out_of_memory c.requires.ready.tried.allowed)

pub coming_by-requires-clause-tried : goal.coming_by-requires-clause-tried
coming_by-requires-clause-tried g c = subst (IsTried (map_of c.args.draft.now)) (sym c.in-Ok.ensures.edit) c.requires.ready.tried

pub coming_by-requires-clause-corners : goal.coming_by-requires-clause-corners
coming_by-requires-clause-corners g c =
    subst (λ (e : Edit). HasCorners (map_of c.args.draft.now) e c.args.corners) (sym c.in-Ok.ensures.edit) c.requires.corners

pub returns-in_default-coming_by : goal.returns-in_default-coming_by
returns-in_default-coming_by g c = stays _ _ _ _ c.requires.ready (out_of_memory c.requires.ready.tried.allowed)

pub add_recording-requires-clause-ready : goal.add_recording-requires-clause-ready
add_recording-requires-clause-ready g c =
    subst (λ (e : Edit). IsReadyFor e c.args.draft.now c.args.areas.now c.args.touched.now) (sym (c.in-Ok-coming_by.ensures.edit ∙ c.in-Ok.ensures.edit)) c.requires.ready

pub returns : goal.returns
returns g c =
    subst (λ (e : Edit). IsTrialOf e c.args.draft.now c.add_recording.new.draft c.add_recording.result) (c.in-Ok-coming_by.ensures.edit ∙ c.in-Ok.ensures.edit) c.add_recording.ensures
