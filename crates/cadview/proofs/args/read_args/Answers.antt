use Rattle.std.proofs.Common.{ap, inl, inr, refl, subst, true, map, List, ◌≡◌, ◌∙◌}
use Rattle.std.specs.Prelude.{Result, Ok, Err, IfErr, IsErrAnd}
use Rattle.clap.specs.Words.{App, HasKind, Text, app_of, fault_of, is_simple, is_simple_and_free, kind_of, subcommand_of, subcommand_rows_of}
use Rattle.clap.specs.declared.error.Error.{Error}
use Rattle.clap.specs.declared.error.kind.ErrorKind.TheVariants as kinds
use Rattle.clap.proofs.OnLiterals.{clap_on_literals}
use Rattle.cadview.specs.Arguments.{IsCadview, IsRefused, SubcommandAsksFor, SubcommandAsksForNone, Texts, cadview}
use Rattle.cadview.specs.Arguments.IsRefused.{no_memory, at_fault, no_view}
use Rattle.cadview.proofs.args.read_args.Goals as goal

err_as : {T : Type 0} (r : Result T Error) (P Q : Error → Type 0) → ((e : Error) → P e → Q e) → IsErrAnd r P → IfErr r Q
err_as (Ok x) P Q f h = absurd h
err_as (Err e) P Q f h = f e h

memory_out : (words : List Text) (e : Error) → kind_of e ≡ kinds.OutOfMemory → IsRefused words (kind_of e)
memory_out words e is_memory = rw is_memory no_memory

refused_by : (app : App) (words : List Text) (e : Error) → IsCadview app → HasKind (fault_of app words) e → IsRefused words (kind_of e)
refused_by app words e known (inl is_memory) = memory_out words e is_memory
refused_by app words e known (inr among) = at_fault app known among

cadview_is_simple : (names : Texts) → is_simple (cadview names) ≡ true
unfolding clap_on_literals
cadview_is_simple names = refl

cadview_is_free : (names : Texts) → is_simple_and_free (cadview names) ≡ true
unfolding clap_on_literals
cadview_is_free names = refl

pub returns-in-Some-clause-ok : goal.returns-in-Some-clause-ok
returns-in-Some-clause-ok c =
    let app = app_of c.in_ok-command.command in
    let words = map (λ w. w.now) c.args.words.now in
    let known : IsCadview app = c.in_ok-command.ensures in
    let found = c.in_ok-matches.ensures.ok.2 (ap is_simple known.same ∙ cadview_is_simple known.names) in
    let met : subcommand_rows_of c.in_ok-matches.matches ≡ subcommand_of app words = found.1 in
    record {
      app = app;
      is_cadview = known;
      no_fault = c.in_ok-matches.ensures.kinds (ap is_simple_and_free known.same ∙ cadview_is_free known.names);
      asks = subst (λ o. SubcommandAsksFor o c.in-Some.view) met c.in-Some.ensures.some;
    }

pub returns-in_err-command-clause-err : goal.returns-in_err-command-clause-err
returns-in_err-command-clause-err c = err_as c.from_residual.result _ _ (memory_out (map (λ w. w.now) c.args.words.now)) c.from_residual.ensures.1

pub returns-in_err-matches-clause-err : goal.returns-in_err-matches-clause-err
returns-in_err-matches-clause-err c =
    let app = app_of c.in_ok-command.command in
    let words = map (λ w. w.now) c.args.words.now in
    let known : IsCadview app = c.in_ok-command.ensures in
    let first = c.in_err-matches.field-0.0 in
    let has : HasKind (fault_of app words) first = c.in_err-matches.ensures.kinds (ap is_simple_and_free known.same ∙ cadview_is_free known.names) in
    err_as c.from_residual-in_err-matches.result _ _ (λ (e : Error) (same : e ≡ first). rw same (refused_by app words first known has))
    c.from_residual-in_err-matches.ensures.1

pub returns-in_err-error-in-None-clause-err : goal.returns-in_err-error-in-None-clause-err
returns-in_err-error-in-None-clause-err c =
    err_as c.from_residual-in_err-error-in-None.result _ _ (memory_out (map (λ w. w.now) c.args.words.now)) c.from_residual-in_err-error-in-None.ensures.1

pub returns-clause-err : goal.returns-clause-err
returns-clause-err c =
    let app = app_of c.in_ok-command.command in
    let words = map (λ w. w.now) c.args.words.now in
    let known : IsCadview app = c.in_ok-command.ensures in
    let found = c.in_ok-matches.ensures.ok.2 (ap is_simple known.same ∙ cadview_is_simple known.names) in
    let met : subcommand_rows_of c.in_ok-matches.matches ≡ subcommand_of app words = found.1 in
    let none : SubcommandAsksForNone (subcommand_of app words) = subst SubcommandAsksForNone met c.in-None.ensures.none in
    let no_fault = c.in_ok-matches.ensures.kinds (ap is_simple_and_free known.same ∙ cadview_is_free known.names) in
    let kind_is : kind_of c.in_ok-error-in-None.field-0 ≡ kinds.MissingSubcommand = c.in_ok-error-in-None.ensures.kind in
    rw kind_is (no_view app known no_fault none)
