use Rattle.std.proofs.Common.{◌≡◌, ◌+◌, ◌++◌, [], ◌∷◌, take, arith, rules, sym, ◌∙◌, ap, subst}
use Rattle.std.proofs.lemmas.List.{take_more, take_all}
use Rattle.cad_history.specs.Standing.{StandsFor, GoesAlong}
use Rattle.cad_history.proofs.Runs.{run_more, opened-run}
use Rattle.cad_history.proofs.OneHistory.{one_end}
use Rattle.cad_history.proofs.Built.{built_shown}
use Rattle.cad_history.proofs.sequence.run.Goals as goal

pub loop-command-preserved : goal.loop-command-preserved
loop-command-preserved g c =
    let commands = c.args.commands.now in
    let i = c.loop-command.command-index in
    let command = c.command-item.result in
    let pushed : c.push.new.self.items ≡ c.loop-command.answers.items ++ c.step-answer.result ∷ [] = rw c.unwrap.ensures at c.push.ensures.items in
    let taken : take (i + 1) commands ≡ take i commands ++ command ∷ [] = take_more commands i command c.loop-command-test.true ∙ ap (λ x. take i commands ++ x ∷ []) (sym c.command-item.is) in
    let runs : GoesAlong g.M.MapView.map g.M.MapStore.belongs c.args.editor.now (take (i + 1) commands) c.push.new.self.items c.step-answer.new.editor = λ h st.
    let so_far = c.loop-command.invariant.runs h st in
    let next = c.step-answer.ensures so_far.0 so_far.2 in
    (next.0, rw (taken, pushed) (run_more h so_far.0 next.0 (take i commands) c.loop-command.answers.items command c.step-answer.result so_far.1 next.1), next.2)
    in
    record {
      room = omega (arith, c.loop-command.invariant.room, c.push.ensures.capacity);
      each = search rules;
      some = (_, (runs c.requires.0 c.requires.1).2);
      runs = runs;
    }

pub returns-clause-run : goal.returns-clause-run
returns-clause-run g c = λ h st.
    let whole : take c.loop-command.command-index c.args.commands.now ≡ c.args.commands.now = take_all _ _ c.loop-command-test.false in
    rw whole at (c.loop-command.invariant.runs h st)

pub returns-clause-built : goal.returns-clause-built
returns-clause-built g c = λ h end first st run at_first.
    let commands = c.args.commands.now in
    let answers = c.loop-command.answers.items in
    let whole : take c.loop-command.command-index commands ≡ commands = take_all _ _ c.loop-command-test.false in
    let there = c.loop-command.invariant.runs h st in
    let same : there.0 ≡ end = one_end commands answers h there.0 end (rw whole at there.1) run in
    let at_first' = opened-run commands answers h end st.history run ∙ at_first in
    let stands = subst (λ x. StandsFor g.M.MapView.map g.M.MapStore.belongs c.loop-command.editor x) same there.2 in
    built_shown end first (g.M.MapView.map c.loop-command.editor.store) stands.history at_first' stands.shows
