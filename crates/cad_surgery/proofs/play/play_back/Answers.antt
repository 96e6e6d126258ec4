use Rattle.std.proofs.Common.{◌∙◌, subst, sym, refl, inr}
use Rattle.cad_map.specs.Costs.{work_bound}
use Rattle.edit_records.specs.Record.{Belongs}
use Rattle.cad_near.specs.KeptAreas.{HoldsAreas}
use Rattle.map_parts.specs.Parts.{map_of}
use Rattle.cad_surgery.proofs.KeptAreas.{none-holds}
use Rattle.cad_surgery.proofs.Entered as grid
use Rattle.cad_surgery.proofs.GridSteps.{same-map, same-proper, same-table, rests, exchange-off, tried-of, made-by, idle, worked}
use Rattle.cad_surgery.proofs.play.play_back.Goals as goal

pub exchange_of-requires : goal.exchange_of-requires
exchange_of-requires g c =
    let b = c.requires.made.0 in
    let belongs = c.requires.made.1 in
    (b, record { tried = tried-of c.args.change.now b (made-by c.args.change.now b (map_of c.args.draft.now) belongs) c.requires.given; is = inr belongs.leads.is }, belongs.holds)

pub enter-requires : goal.enter-requires
enter-requires g c = grid.can-enter (exchange-off c.requires.made.1 c.requires.given c.in_ok-exchange.ensures.gone c.in_ok-exchange.ensures.come) c.requires.rest

pub returns-in_err-enter-clause-rest : goal.returns-in_err-enter-clause-rest
returns-in_err-enter-clause-rest g c =
    rests c.args.draft.now c.enter.new.self c.enter.ensures.beside c.requires.rest.proper (map_of c.args.draft.now) refl (c.in_err-enter.ensures.err _ c.requires.rest.grid)

pub back_edit-requires-clause-beside : goal.back_edit-requires-clause-beside
back_edit-requires-clause-beside g c =
    let b = c.requires.made.0 in
    record {
      made = (b, subst (Belongs c.args.change.now b) (sym (same-map c.args.draft.now c.enter.new.self c.enter.ensures.beside)) c.requires.made.1);
      proper = same-proper c.args.draft.now c.enter.new.self c.enter.ensures.beside c.requires.rest.proper;
    }

pub withdraw-requires : goal.withdraw-requires
withdraw-requires g c =
    grid.leaves (exchange-off c.requires.made.1 c.requires.given c.in_ok-exchange.ensures.gone c.in_ok-exchange.ensures.come) c.requires.rest c.enter.new.self c.back_edit.new.draft c.in_ok-enter.ensures.both c.back_edit.ensures.grid

pub withdraw-requires-in-Err : goal.withdraw-requires-in-Err
withdraw-requires-in-Err g c =
    grid.returns (exchange-off c.requires.made.1 c.requires.given c.in_ok-exchange.ensures.gone c.in_ok-exchange.ensures.come) c.requires.rest c.enter.new.self c.back_edit.new.draft c.in_ok-enter.ensures.both c.back_edit.ensures.grid

pub returns-in-Ok-clause-before : goal.returns-in-Ok-clause-before
returns-in-Ok-clause-before g c m belongs =
    same-map c.back_edit.new.draft c.withdraw.new.self c.withdraw.ensures.beside
    ∙ c.in-Ok.ensures.before m (subst (Belongs c.args.change.now m) (sym (same-map c.args.draft.now c.enter.new.self c.enter.ensures.beside)) belongs)

pub returns-in-Ok-clause-rest : goal.returns-in-Ok-clause-rest
returns-in-Ok-clause-rest g c =
    let b = c.requires.made.0 in
    let x = exchange-off c.requires.made.1 c.requires.given c.in_ok-exchange.ensures.gone c.in_ok-exchange.ensures.come in
    grid.rests-there x c.requires.rest c.enter.new.self c.back_edit.new.draft c.in_ok-enter.ensures.both c.back_edit.ensures.grid c.withdraw.ensures.beside c.back_edit.ensures.proper
    (c.in-Ok.ensures.before b (subst (Belongs c.args.change.now b) (sym (same-map c.args.draft.now c.enter.new.self c.enter.ensures.beside)) c.requires.made.1)) c.withdraw.ensures.left

pub returns-clause-err : goal.returns-clause-err
returns-clause-err g c = grid.stayed c.args.draft.now c.enter.new.self c.back_edit.new.draft c.withdraw-in-Err.new.self c.enter.ensures.beside c.in-Err.ensures.err c.withdraw-in-Err.ensures.beside

pub returns-clause-rest : goal.returns-clause-rest
returns-clause-rest g c =
    let x = exchange-off c.requires.made.1 c.requires.given c.in_ok-exchange.ensures.gone c.in_ok-exchange.ensures.come in
    grid.rests-here x c.requires.rest c.enter.new.self c.back_edit.new.draft c.in_ok-enter.ensures.both c.back_edit.ensures.grid c.withdraw-in-Err.ensures.beside c.back_edit.ensures.proper
    (c.in-Err.ensures.err ∙ same-map c.args.draft.now c.enter.new.self c.enter.ensures.beside) c.withdraw-in-Err.ensures.left

pub returns-in_err-exchange-clause-work : goal.returns-in_err-exchange-clause-work
returns-in_err-exchange-clause-work g c m belongs = idle c.args.draft.now c.args.draft.now _ refl

pub returns-in_err-enter-clause-work : goal.returns-in_err-enter-clause-work
returns-in_err-enter-clause-work g c m belongs = idle c.args.draft.now c.enter.new.self _ (same-table c.args.draft.now c.enter.new.self c.enter.ensures.beside)

pub returns-in-Ok-clause-work : goal.returns-in-Ok-clause-work
returns-in-Ok-clause-work g c m belongs =
    let same = same-map c.args.draft.now c.enter.new.self c.enter.ensures.beside in
    worked c.args.draft.now c.enter.new.self c.back_edit.new.draft c.withdraw.new.self c.enter.ensures.beside c.withdraw.ensures.beside (λ i. work_bound m (same i)) (c.back_edit.ensures.work m (subst (Belongs c.args.change.now m) (sym same) belongs))

pub returns-clause-work : goal.returns-clause-work
returns-clause-work g c m belongs =
    let same = same-map c.args.draft.now c.enter.new.self c.enter.ensures.beside in
    worked c.args.draft.now c.enter.new.self c.back_edit.new.draft c.withdraw-in-Err.new.self c.enter.ensures.beside c.withdraw-in-Err.ensures.beside (λ i. work_bound m (same i)) (c.back_edit.ensures.work m (subst (Belongs c.args.change.now m) (sym same) belongs))

-- ---- Areas

pub returns-in_err-enter-clause-areas : goal.returns-in_err-enter-clause-areas
returns-in_err-enter-clause-areas g c =
    subst (HoldsAreas c.args.areas.now) (sym (same-map c.args.draft.now c.enter.new.self c.enter.ensures.beside)) c.requires.areas

pub areas_back-requires-clause-made : goal.areas_back-requires-clause-made
areas_back-requires-clause-made g c =
    (c.requires.made.0, subst (Belongs c.args.change.now c.requires.made.0) (sym (same-map c.args.draft.now c.enter.new.self c.enter.ensures.beside)) c.requires.made.1)

pub areas_back-requires-clause-held : goal.areas_back-requires-clause-held
areas_back-requires-clause-held g c =
    subst (HoldsAreas c.args.areas.now) (sym (same-map c.args.draft.now c.enter.new.self c.enter.ensures.beside)) c.requires.areas

pub returns-in-Ok-clause-areas : goal.returns-in-Ok-clause-areas
returns-in-Ok-clause-areas g c =
    let b = c.requires.made.0 in
    let belongs = subst (Belongs c.args.change.now b) (sym (same-map c.args.draft.now c.enter.new.self c.enter.ensures.beside)) c.requires.made.1 in
    subst (HoldsAreas c.areas_back.new.areas)
    (sym (same-map c.back_edit.new.draft c.withdraw.new.self c.withdraw.ensures.beside ∙ c.in-Ok.ensures.before b belongs))
    (c.areas_back.ensures b belongs)

pub returns-clause-areas : goal.returns-clause-areas
returns-clause-areas g c = none-holds c.clear.new.self (map_of c.withdraw-in-Err.new.self) c.clear.ensures.none
