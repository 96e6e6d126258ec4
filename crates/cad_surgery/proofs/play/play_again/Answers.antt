use Rattle.std.proofs.Common.{◌∙◌, ap, subst, sym, refl, inl}
use Rattle.cad_map.specs.Costs.{work_bound}
use Rattle.cad_map.specs.Effects.{after}
use Rattle.cad_map.specs.Map.{Map}
use Rattle.edit_records.specs.Record.{edit_of, Belongs}
use Rattle.cad_near.specs.KeptAreas.{HoldsAreas}
use Rattle.map_parts.specs.Parts.{map_of}
use Rattle.cad_surgery.proofs.KeptAreas.{none-holds}
use Rattle.cad_surgery.proofs.Entered as grid
use Rattle.cad_surgery.proofs.GridSteps.{same-map, same-proper, same-table, rests, exchange-on, tried-of, made-by, idle, worked}
use Rattle.cad_surgery.proofs.play.play_again.Goals as goal

pub exchange_of-requires : goal.exchange_of-requires
exchange_of-requires g c =
    let m = map_of c.args.draft.now in
    (m, record { tried = tried-of c.args.change.now m (made-by c.args.change.now m c.requires.made.0 c.requires.made.1) c.requires.given; is = inl refl }, c.requires.made.1.holds)

pub enter-requires : goal.enter-requires
enter-requires g c = grid.can-enter (exchange-on c.requires.made.1 c.requires.given c.in_ok-exchange.ensures.gone c.in_ok-exchange.ensures.come) c.requires.rest

pub returns-in_err-enter-clause-rest : goal.returns-in_err-enter-clause-rest
returns-in_err-enter-clause-rest g c =
    rests c.args.draft.now c.enter.new.self c.enter.ensures.beside c.requires.rest.proper (map_of c.args.draft.now) refl (c.in_err-enter.ensures.err _ c.requires.rest.grid)

pub forward_edit-requires-clause-beside : goal.forward_edit-requires-clause-beside
forward_edit-requires-clause-beside g c =
    let n = c.requires.made.0 in
    record {
      made = (n, subst (λ (m : Map). Belongs c.args.change.now m n) (sym (same-map c.args.draft.now c.enter.new.self c.enter.ensures.beside)) c.requires.made.1);
      proper = same-proper c.args.draft.now c.enter.new.self c.enter.ensures.beside c.requires.rest.proper;
    }

pub withdraw-requires : goal.withdraw-requires
withdraw-requires g c =
    grid.leaves (exchange-on c.requires.made.1 c.requires.given c.in_ok-exchange.ensures.gone c.in_ok-exchange.ensures.come) c.requires.rest c.enter.new.self c.forward_edit.new.draft c.in_ok-enter.ensures.both c.forward_edit.ensures.grid

pub withdraw-requires-in-Err : goal.withdraw-requires-in-Err
withdraw-requires-in-Err g c =
    grid.returns (exchange-on c.requires.made.1 c.requires.given c.in_ok-exchange.ensures.gone c.in_ok-exchange.ensures.come) c.requires.rest c.enter.new.self c.forward_edit.new.draft c.in_ok-enter.ensures.both c.forward_edit.ensures.grid

pub returns-in-Ok-clause-after : goal.returns-in-Ok-clause-after
returns-in-Ok-clause-after g c =
    same-map c.forward_edit.new.draft c.withdraw.new.self c.withdraw.ensures.beside ∙ c.in-Ok.ensures.becomes
    ∙ ap (λ m. after m (edit_of c.args.change.now)) (same-map c.args.draft.now c.enter.new.self c.enter.ensures.beside)

pub returns-in-Ok-clause-rest : goal.returns-in-Ok-clause-rest
returns-in-Ok-clause-rest g c =
    let x = exchange-on c.requires.made.1 c.requires.given c.in_ok-exchange.ensures.gone c.in_ok-exchange.ensures.come in
    grid.rests-there x c.requires.rest c.enter.new.self c.forward_edit.new.draft c.in_ok-enter.ensures.both c.forward_edit.ensures.grid c.withdraw.ensures.beside c.forward_edit.ensures.proper
    (c.in-Ok.ensures.becomes ∙ ap (λ m. after m (edit_of c.args.change.now)) (same-map c.args.draft.now c.enter.new.self c.enter.ensures.beside)) c.withdraw.ensures.left

pub returns-clause-err : goal.returns-clause-err
returns-clause-err g c = grid.stayed c.args.draft.now c.enter.new.self c.forward_edit.new.draft c.withdraw-in-Err.new.self c.enter.ensures.beside c.in-Err.ensures.err c.withdraw-in-Err.ensures.beside

pub returns-clause-rest : goal.returns-clause-rest
returns-clause-rest g c =
    let x = exchange-on c.requires.made.1 c.requires.given c.in_ok-exchange.ensures.gone c.in_ok-exchange.ensures.come in
    grid.rests-here x c.requires.rest c.enter.new.self c.forward_edit.new.draft c.in_ok-enter.ensures.both c.forward_edit.ensures.grid c.withdraw-in-Err.ensures.beside c.forward_edit.ensures.proper
    (c.in-Err.ensures.err ∙ same-map c.args.draft.now c.enter.new.self c.enter.ensures.beside) c.withdraw-in-Err.ensures.left

pub returns-in_err-exchange-clause-work : goal.returns-in_err-exchange-clause-work
returns-in_err-exchange-clause-work g c = idle c.args.draft.now c.args.draft.now _ refl

pub returns-in_err-enter-clause-work : goal.returns-in_err-enter-clause-work
returns-in_err-enter-clause-work g c = idle c.args.draft.now c.enter.new.self _ (same-table c.args.draft.now c.enter.new.self c.enter.ensures.beside)

pub returns-in-Ok-clause-work : goal.returns-in-Ok-clause-work
returns-in-Ok-clause-work g c =
    let same = same-map c.args.draft.now c.enter.new.self c.enter.ensures.beside in
    worked c.args.draft.now c.enter.new.self c.forward_edit.new.draft c.withdraw.new.self c.enter.ensures.beside c.withdraw.ensures.beside (λ i. work_bound (same i) (after (same i) (edit_of c.args.change.now))) c.forward_edit.ensures.work

pub returns-clause-work : goal.returns-clause-work
returns-clause-work g c =
    let same = same-map c.args.draft.now c.enter.new.self c.enter.ensures.beside in
    worked c.args.draft.now c.enter.new.self c.forward_edit.new.draft c.withdraw-in-Err.new.self c.enter.ensures.beside c.withdraw-in-Err.ensures.beside (λ i. work_bound (same i) (after (same i) (edit_of c.args.change.now))) c.forward_edit.ensures.work

-- ---- Areas

pub returns-in_err-enter-clause-areas : goal.returns-in_err-enter-clause-areas
returns-in_err-enter-clause-areas g c =
    subst (HoldsAreas c.args.areas.now) (sym (same-map c.args.draft.now c.enter.new.self c.enter.ensures.beside)) c.requires.areas

pub areas_again-requires-clause-made : goal.areas_again-requires-clause-made
areas_again-requires-clause-made g c =
    (c.requires.made.0, subst (λ (m : Map). Belongs c.args.change.now m c.requires.made.0) (sym (same-map c.args.draft.now c.enter.new.self c.enter.ensures.beside)) c.requires.made.1)

pub areas_again-requires-clause-held : goal.areas_again-requires-clause-held
areas_again-requires-clause-held g c =
    subst (HoldsAreas c.args.areas.now) (sym (same-map c.args.draft.now c.enter.new.self c.enter.ensures.beside)) c.requires.areas

pub returns-in-Ok-clause-areas : goal.returns-in-Ok-clause-areas
returns-in-Ok-clause-areas g c =
    let n = c.requires.made.0 in
    let belongs = subst (λ (m : Map). Belongs c.args.change.now m n) (sym (same-map c.args.draft.now c.enter.new.self c.enter.ensures.beside)) c.requires.made.1 in
    subst (HoldsAreas c.areas_again.new.areas)
    (belongs.leads.is ∙ sym (same-map c.forward_edit.new.draft c.withdraw.new.self c.withdraw.ensures.beside ∙ c.in-Ok.ensures.becomes))
    (c.areas_again.ensures n belongs)

pub returns-clause-areas : goal.returns-clause-areas
returns-clause-areas g c = none-holds c.clear.new.self (map_of c.withdraw-in-Err.new.self) c.clear.ensures.none
