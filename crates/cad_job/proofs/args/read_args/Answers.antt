use Rattle.std.proofs.Common.{ap, arith, codes, inl, inr, map, refl, subst, sym, true, List, [], ◌≡◌, ◌∙◌}
use Rattle.std.specs.Prelude.{Err, IfErr, IsErrAnd, Ok, Result, Some}
use Rattle.clap.specs.Words.{App, HasKind, Text, app_of, fault_of, first_of, found_of, is_simple, is_simple_and_free, kind_of, matches_of, one_of, one_text, rows_of}
use Rattle.clap.specs.declared.error.Error.{Error}
use Rattle.clap.specs.declared.error.kind.ErrorKind.TheVariants as kinds
use Rattle.clap.proofs.WalkLemmas.{first_value-rows, one_text-rows}
use Rattle.clap.proofs.OnLiterals.{clap_on_literals}
use Rattle.cad_job.specs.Arguments.{IsRefused, cadedit}
use Rattle.cad_job.specs.Arguments.IsRefused.{no_memory, at_fault}
use Rattle.cad_job.proofs.DepthGiven.{depth_read}
use Rattle.cad_job.proofs.args.read_args.Goals as goal

err_as : {T : Type 0} (r : Result T Error) (P Q : Error → Type 0) → ((e : Error) → P e → Q e) → IsErrAnd r P → IfErr r Q
err_as (Ok x) P Q f h = absurd h
err_as (Err e) P Q f h = f e h

memory_out : (words : List Text) (e : Error) → kind_of e ≡ kinds.OutOfMemory → IsRefused words (kind_of e)
memory_out words e is_memory = rw is_memory no_memory

refused_by : (words : List Text) (e : Error) → HasKind (fault_of cadedit words) e → IsRefused words (kind_of e)
refused_by words e (inl is_memory) = memory_out words e is_memory
refused_by words e (inr among) = at_fault among

cadedit_is_simple : is_simple cadedit ≡ true
unfolding clap_on_literals
cadedit_is_simple = refl

cadedit_is_free : is_simple_and_free cadedit ≡ true
unfolding clap_on_literals
cadedit_is_free = refl

pub returns-in_err-command-clause-err : goal.returns-in_err-command-clause-err
returns-in_err-command-clause-err c = err_as c.from_residual.result _ _ (memory_out (map (λ w. w.now) c.args.words.now)) c.from_residual.ensures.1

pub returns-in_err-matches-clause-err : goal.returns-in_err-matches-clause-err
returns-in_err-matches-clause-err c =
    let app_is : app_of c.in_ok-command.command ≡ cadedit = c.in_ok-command.ensures in
    let words = map (λ w. w.now) c.args.words.now in
    let first = c.in_err-matches.field-0.0 in
    let has : HasKind (fault_of (app_of c.in_ok-command.command) words) first = c.in_err-matches.ensures.kinds (ap is_simple_and_free app_is ∙ cadedit_is_free) in
    let fault : HasKind (fault_of cadedit words) first = subst (λ (a : App). HasKind (fault_of a words) first) app_is has in
    err_as c.from_residual-in_err-matches.result _ _ (λ (e : Error) (same : e ≡ first). rw same (refused_by words first fault))
    c.from_residual-in_err-matches.ensures.1

pub unwrap-edits-requires : goal.unwrap-edits-requires
unwrap-edits-requires c =
    let (n, t, is, low, high, text, value) = depth_read c.in_ok-command.command c.in_ok-matches.matches c.get_one.result
    c.in_ok-command.ensures c.in_ok-matches.ensures.parsed c.get_one.ensures.value in
    rw is refl

pub unwrap-depth-requires : goal.unwrap-depth-requires
unwrap-depth-requires c =
    let (n, t, is, low, high, text, value) = depth_read c.in_ok-command.command c.in_ok-matches.matches c.get_one.result
    c.in_ok-command.ensures c.in_ok-matches.ensures.parsed c.get_one.ensures.value in
    let same : Some n ≡ Some c.from.result = sym is ∙ (c.unwrap-edits.ensures ∙ ap (λ k. Some k) (sym c.from.ensures)) in
    let one : n ≡ c.from.result = cc in
    c.new.ensures.some.1 (record { some = omega arith; within = omega arith })

pub returns-clause-ok : goal.returns-clause-ok
returns-clause-ok c =
    let app_is : app_of c.in_ok-command.command ≡ cadedit = c.in_ok-command.ensures in
    let words = map (λ w. w.now) c.args.words.now in
    let m = c.in_ok-matches.matches in
    let (n, t, is, low, high, text, value) = depth_read c.in_ok-command.command m c.get_one.result
    c.in_ok-command.ensures c.in_ok-matches.ensures.parsed c.get_one.ensures.value in
    let found = c.in_ok-matches.ensures.matches (ap is_simple app_is ∙ cadedit_is_simple) in
    let rows : rows_of (found_of m) ≡ matches_of cadedit words = found.0 ∙ ap (λ (a : App). matches_of a words) app_is in
    let no_fault : fault_of (app_of c.in_ok-command.command) words ≡ [] = c.in_ok-matches.ensures.kinds (ap is_simple_and_free app_is ∙ cadedit_is_free) in
    let asked : Some n ≡ Some c.from.result = sym is ∙ (c.unwrap-edits.ensures ∙ ap (λ k. Some k) (sym c.from.ensures)) in
    let made : c.unwrap-depth.result ≡ c.from.result = rw c.unwrap-depth.ensures at c.new.ensures.value in
    let one : c.unwrap-depth.result ≡ n = cc in
    let flag : one_text (found_of m) (codes "stop") ≡ one_of (codes "stop") (matches_of cadedit words) = one_text-rows (found_of m) (codes "stop") ∙ ap (one_of (codes "stop")) rows in
    record {
      low = omega arith;
      high = omega arith;
      no_fault = ap (λ (a : App). fault_of a words) (sym app_is) ∙ no_fault;
      flagged = (λ given. c.get_flag-stop.ensures.value (flag ∙ given), λ given. c.get_flag-stop.ensures.other (flag ∙ given), λ given. c.get_flag-stop.ensures.none (flag ∙ given));
      given = (t, ap (one_of (codes "depth")) (sym rows) ∙ sym (one_text-rows (found_of m) (codes "depth")) ∙ text, one ∙ value);
      named = c.get_str-file.ensures ∙ first_value-rows (found_of m) (codes "file") ∙ ap (first_of (codes "file")) rows;
    }
