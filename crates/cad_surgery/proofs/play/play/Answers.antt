use Rattle.std.proofs.Common.{◌∙◌, ap, subst, sym, refl}
use Rattle.cad_map.specs.Effects.{after}
use Rattle.map_parts.specs.Parts.{map_of}
use Rattle.edit_records.specs.Record.{Holds}
use Rattle.edit_records.proofs.Exchanges.{both-holds}
use Rattle.cad_map.specs.Outcome.{out_of_memory}
use Rattle.cad_map.specs.Valid.{IsValid}
use Rattle.cad_map.specs.Touched.{IsTouched}
use Rattle.cad_laws.specs.Tried.{IsTried}
use Rattle.cad_edit.specs.Admitted.{HasCorners}
use Rattle.cad_map.specs.Rings.{HasWholeRings}
use Rattle.cad_map.proofs.CallerLemmas.{whole_valid}
use Rattle.cad_near.specs.KeptAreas.{HoldsAreas}
use Rattle.cad_near.specs.Near.{HoldsMap, touched_of}
use Rattle.cad_surgery.proofs.Played.{listed}
use Rattle.cad_map.specs.Costs.{work_bound}
use Rattle.cad_surgery.proofs.Entered as grid
use Rattle.cad_surgery.proofs.GridSteps.{same-map, same-proper, same-table, rests, idle, worked}
use Rattle.cad_surgery.proofs.play.play.Goals as goal

pub returns-in_default-clause-refused : goal.returns-in_default-clause-refused
returns-in_default-clause-refused g c = out_of_memory c.requires.tried.allowed

pub enter-requires : goal.enter-requires
enter-requires g c = grid.can-enter (listed _ _ c.requires.tried c.in-Ok.plan.exchange.gone c.in-Ok.plan.exchange.come c.in-Ok.ensures.gone c.in-Ok.ensures.come) c.requires.rest

pub returns-in_default-enter-clause-refused : goal.returns-in_default-enter-clause-refused
returns-in_default-enter-clause-refused g c = out_of_memory c.requires.tried.allowed

pub returns-in_default-enter-clause-rest : goal.returns-in_default-enter-clause-rest
returns-in_default-enter-clause-rest g c =
    let m = map_of c.args.draft.now in
    rests c.args.draft.now c.enter.new.self c.enter.ensures.beside c.requires.rest.proper m refl
    (c.in_default-enter.ensures.err m c.requires.rest.grid)

pub turn_areas-requires-clause-tried : goal.turn_areas-requires-clause-tried
turn_areas-requires-clause-tried g c =
    subst (λ n. IsTried n c.args.edit.now) (sym (same-map c.args.draft.now c.enter.new.self c.enter.ensures.beside)) c.requires.tried

pub turn_areas-requires-clause-touched : goal.turn_areas-requires-clause-touched
turn_areas-requires-clause-touched g c =
    subst (λ n. IsTouched n (after n c.args.edit.now) (touched_of c.in-Ok.plan.touched))
    (sym (same-map c.args.draft.now c.enter.new.self c.enter.ensures.beside)) c.in-Ok.ensures.touched

pub turn_areas-requires-clause-held : goal.turn_areas-requires-clause-held
turn_areas-requires-clause-held g c =
    subst (HoldsAreas c.args.areas.now) (sym (same-map c.args.draft.now c.enter.new.self c.enter.ensures.beside)) c.requires.areas

pub try_edit-requires-clause-ready : goal.try_edit-requires-clause-ready
try_edit-requires-clause-ready g c =
    let m = map_of c.args.draft.now in
    let e = c.args.edit.now in
    let lists = c.in-Ok.plan.exchange in
    let x = listed m e c.requires.tried lists.gone lists.come c.in-Ok.ensures.gone c.in-Ok.ensures.come in
    let both = c.in-Ok-enter.ensures.both m (after m e) lists.gone c.requires.rest.grid x in
    let same = sym (same-map c.args.draft.now c.enter.new.self c.enter.ensures.beside) in
    record {
      tried = subst (λ n. IsTried n e) same c.requires.tried;
      held = subst (λ n. HoldsMap c.enter.new.self.grid (after n e)) same (both-holds c.enter.new.self.grid m (after m e) both);
      areas = c.turn_areas.ensures;
      touched = subst (λ n. IsTouched n (after n e) (touched_of c.in-Ok.plan.touched)) same c.in-Ok.ensures.touched;
      proper = same-proper c.args.draft.now c.enter.new.self c.enter.ensures.beside c.requires.rest.proper;
    }

pub try_edit-requires-clause-corners : goal.try_edit-requires-clause-corners
try_edit-requires-clause-corners g c =
    subst (λ n. HasCorners n c.args.edit.now c.args.corners) (sym (same-map c.args.draft.now c.enter.new.self c.enter.ensures.beside)) c.requires.corners

pub withdraw-requires : goal.withdraw-requires
withdraw-requires g c =
    let x = listed _ _ c.requires.tried c.in-Ok.plan.exchange.gone c.in-Ok.plan.exchange.come c.in-Ok.ensures.gone c.in-Ok.ensures.come in
    grid.leaves x c.requires.rest c.enter.new.self c.try_edit.new.draft c.in-Ok-enter.ensures.both c.try_edit.ensures.played.made.grid

pub withdraw-requires-in-Err : goal.withdraw-requires-in-Err
withdraw-requires-in-Err g c =
    let x = listed _ _ c.requires.tried c.in-Ok.plan.exchange.gone c.in-Ok.plan.exchange.come c.in-Ok.ensures.gone c.in-Ok.ensures.come in
    grid.returns x c.requires.rest c.enter.new.self c.try_edit.new.draft c.in-Ok-enter.ensures.both c.try_edit.ensures.played.made.grid

pub returns-in-Ok-try_edit-clause-made : goal.returns-in-Ok-try_edit-clause-made
returns-in-Ok-try_edit-clause-made g c =
    same-map c.try_edit.new.draft c.withdraw.new.self c.withdraw.ensures.beside ∙ c.in-Ok-try_edit.ensures.played.made.becomes
    ∙ ap (λ m. after m c.args.edit.now) (same-map c.args.draft.now c.enter.new.self c.enter.ensures.beside)

pub returns-in-Ok-try_edit-clause-valid : goal.returns-in-Ok-try_edit-clause-valid
returns-in-Ok-try_edit-clause-valid g c =
    subst IsValid (sym (same-map c.try_edit.new.draft c.withdraw.new.self c.withdraw.ensures.beside)) c.in-Ok-try_edit.ensures.played.valid

pub returns-in-Ok-try_edit-clause-holds : goal.returns-in-Ok-try_edit-clause-holds
returns-in-Ok-try_edit-clause-holds g c =
    subst (Holds c.in-Ok-try_edit.change) (same-map c.args.draft.now c.enter.new.self c.enter.ensures.beside) c.in-Ok-try_edit.ensures.holds

pub returns-in-Ok-try_edit-clause-rest : goal.returns-in-Ok-try_edit-clause-rest
returns-in-Ok-try_edit-clause-rest g c =
    let x = listed _ _ c.requires.tried c.in-Ok.plan.exchange.gone c.in-Ok.plan.exchange.come c.in-Ok.ensures.gone c.in-Ok.ensures.come in
    grid.rests-there x c.requires.rest c.enter.new.self c.try_edit.new.draft c.in-Ok-enter.ensures.both c.try_edit.ensures.played.made.grid c.withdraw.ensures.beside c.try_edit.ensures.played.made.proper
    (c.in-Ok-try_edit.ensures.played.made.becomes ∙ ap (λ m. after m c.args.edit.now) (same-map c.args.draft.now c.enter.new.self c.enter.ensures.beside)) c.withdraw.ensures.left

pub returns-clause-err : goal.returns-clause-err
returns-clause-err g c = grid.stayed c.args.draft.now c.enter.new.self c.try_edit.new.draft c.withdraw-in-Err.new.self c.enter.ensures.beside c.in-Err.ensures.played.made.err c.withdraw-in-Err.ensures.beside

pub returns-clause-rest : goal.returns-clause-rest
returns-clause-rest g c =
    let x = listed _ _ c.requires.tried c.in-Ok.plan.exchange.gone c.in-Ok.plan.exchange.come c.in-Ok.ensures.gone c.in-Ok.ensures.come in
    grid.rests-here x c.requires.rest c.enter.new.self c.try_edit.new.draft c.in-Ok-enter.ensures.both c.try_edit.ensures.played.made.grid c.withdraw-in-Err.ensures.beside c.try_edit.ensures.played.made.proper
    (c.in-Err.ensures.played.made.err ∙ same-map c.args.draft.now c.enter.new.self c.enter.ensures.beside) c.withdraw-in-Err.ensures.left

pub returns-in_default-clause-work : goal.returns-in_default-clause-work
returns-in_default-clause-work g c = idle c.args.draft.now c.args.draft.now _ refl

pub returns-in_default-enter-clause-work : goal.returns-in_default-enter-clause-work
returns-in_default-enter-clause-work g c = idle c.args.draft.now c.enter.new.self _ (same-table c.args.draft.now c.enter.new.self c.enter.ensures.beside)

pub returns-in-Ok-try_edit-clause-work : goal.returns-in-Ok-try_edit-clause-work
returns-in-Ok-try_edit-clause-work g c =
    let same = same-map c.args.draft.now c.enter.new.self c.enter.ensures.beside in
    worked c.args.draft.now c.enter.new.self c.try_edit.new.draft c.withdraw.new.self c.enter.ensures.beside c.withdraw.ensures.beside (λ i. work_bound (same i) (after (same i) c.args.edit.now)) c.try_edit.ensures.played.made.work

pub returns-clause-work : goal.returns-clause-work
returns-clause-work g c =
    let same = same-map c.args.draft.now c.enter.new.self c.enter.ensures.beside in
    worked c.args.draft.now c.enter.new.self c.try_edit.new.draft c.withdraw-in-Err.new.self c.enter.ensures.beside c.withdraw-in-Err.ensures.beside (λ i. work_bound (same i) (after (same i) c.args.edit.now)) c.try_edit.ensures.played.made.work

-- ---- Areas

pub returns-in_default-enter-clause-areas : goal.returns-in_default-enter-clause-areas
returns-in_default-enter-clause-areas g c =
    subst (HoldsAreas c.args.areas.now) (sym (same-map c.args.draft.now c.enter.new.self c.enter.ensures.beside)) c.requires.areas

pub keep_bent-requires : goal.keep_bent-requires
keep_bent-requires g c =
    subst HasWholeRings (sym (same-map c.try_edit.new.draft c.withdraw.new.self c.withdraw.ensures.beside))
    (whole_valid (map_of c.try_edit.new.draft) c.in-Ok-try_edit.ensures.played.valid)

pub returns-in-Ok-try_edit-clause-areas : goal.returns-in-Ok-try_edit-clause-areas
returns-in-Ok-try_edit-clause-areas g c =
    c.keep_bent.ensures (subst (HoldsAreas c.turn_areas.new.areas)
    (sym (same-map c.try_edit.new.draft c.withdraw.new.self c.withdraw.ensures.beside ∙ c.in-Ok-try_edit.ensures.played.made.becomes)) c.turn_areas.ensures)

pub return_areas-requires-clause-tried : goal.return_areas-requires-clause-tried
return_areas-requires-clause-tried g c =
    subst (λ n. IsTried n c.args.edit.now)
    (sym (c.in-Err.ensures.played.made.err ∙ same-map c.args.draft.now c.enter.new.self c.enter.ensures.beside)) c.requires.tried

pub return_areas-requires-clause-touched : goal.return_areas-requires-clause-touched
return_areas-requires-clause-touched g c =
    subst (λ n. IsTouched n (after n c.args.edit.now) (touched_of c.in-Ok.plan.touched))
    (sym (c.in-Err.ensures.played.made.err ∙ same-map c.args.draft.now c.enter.new.self c.enter.ensures.beside)) c.in-Ok.ensures.touched

pub return_areas-requires-clause-held : goal.return_areas-requires-clause-held
return_areas-requires-clause-held g c =
    subst (λ n. HoldsAreas c.turn_areas.new.areas (after n c.args.edit.now)) (sym c.in-Err.ensures.played.made.err) c.turn_areas.ensures

pub keep_bent-requires-in-Err : goal.keep_bent-requires-in-Err
keep_bent-requires-in-Err g c =
    subst HasWholeRings (sym (grid.stayed c.args.draft.now c.enter.new.self c.try_edit.new.draft c.withdraw-in-Err.new.self c.enter.ensures.beside c.in-Err.ensures.played.made.err c.withdraw-in-Err.ensures.beside))
    (whole_valid (map_of c.args.draft.now) c.requires.tried.valid)

pub returns-clause-areas : goal.returns-clause-areas
returns-clause-areas g c =
    c.keep_bent-in-Err.ensures (subst (HoldsAreas c.return_areas.new.areas)
    (sym (same-map c.try_edit.new.draft c.withdraw-in-Err.new.self c.withdraw-in-Err.ensures.beside)) c.return_areas.ensures)
