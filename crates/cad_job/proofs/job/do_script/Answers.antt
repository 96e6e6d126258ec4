use Rattle.std.proofs.Common.{rules, ◌++◌, ◌∷◌, [], ◌∙◌, ◌≤◌, sym, refl, ap, List, ℕ, length, append-nil, append_assoc, ◌+◌, ◌≡◌, Bool, true, false, subst, arith}
use Rattle.std.proofs.KnownBytes.{Appends-trans, Appends-nil, Appends-kept}
use Rattle.std.proofs.lemmas.List.{length_push}
use Rattle.csv.specs.Records.{fields_of}
use Rattle.cad_history.specs.History.{beginning}
use Rattle.cad_files.proofs.SevenFields.{other-seven}
use Rattle.cad_job.proofs.JobFacts.{front-whole, flushed_does, job_taken, job_taken_more, job_taken_next}
use Rattle.cad_job.proofs.ScriptFacts.{AreAnswered-more, AreGoneThrough-more, through-answered}
use Rattle.cad_job.specs.Stopped.{AreGoneThrough, stops}
use Rattle.cad_job.proofs.job.do_script.Goals as goal
use Rattle.cad_job.proofs.job.do_script.Goals.{else-stop-via-then-stop+else-stops, else-stop-via-else-stop}

pub returns-in-Err-clause-does : goal.returns-in-Err-clause-does
returns-in-Err-clause-does g c = λ text plan rows h opens.
    ([], Appends-nil _, ([], job_taken g.R.Read.remaining text plan [] c.args.reader.now rows opens (rw (append-nil plan) h), omega arith, ([], (beginning (g.M.MapView.map c.args.store) c.args.depth, (refl, refl)), ([], refl))))

pub loop-turn-init : goal.loop-turn-init
loop-turn-init g c =
    let stands = c.in-Ok.ensures.opened in
    let start = beginning (g.M.MapView.map c.args.store) c.args.depth in
    record {
      done = λ text plan h. record { script = []; written = []; now = start; read = rw (append-nil plan) h; count = refl; told = (refl, refl); stands = stands; wrote = Appends-nil _ };
      some = (start, stands);
      few = omega arith;
      quiet = refl;
    }

pub returns-in-Ok-false-clause-does : goal.returns-in-Ok-false-clause-does
returns-in-Ok-false-clause-does g c = λ text plan rows h opens.
    let so_far = c.loop-turn.invariant.done text plan h in
    let whole = c.in-Ok-false.ensures.ends c.in-Ok-false.field-0-test text (plan ++ so_far.script) so_far.read in
    let all = job_taken g.R.Read.remaining text plan so_far.script c.loop-turn.reader rows opens so_far.read in
    let few : length so_far.script ≤ 1000000 = omega (arith, so_far.count, c.loop-turn.invariant.few) in (
      so_far.written,
      Appends-kept _ _ _ _ so_far.wrote c.flushed.ensures.kept,
      flushed_does c.args.stop _ c.flushed.result text plan so_far.script (g.M.MapView.map c.args.store) c.args.depth so_far.written _ _ all few (so_far.now, through-answered c.args.stop _ so_far.script so_far.written so_far.now so_far.told) (so_far.script, whole, all, few, (so_far.now, so_far.told)) c.flushed.ensures.ended,
    )

pub returns-in-Err-Read-clause-does : goal.returns-in-Err-Read-clause-does
returns-in-Err-Read-clause-does g c = λ text plan rows h opens.
    let so_far = c.loop-turn.invariant.done text plan h in
    let all = job_taken g.R.Read.remaining text plan so_far.script c.loop-turn.reader rows opens so_far.read in
    let few : length so_far.script ≤ 1000000 = omega (arith, so_far.count, c.loop-turn.invariant.few) in (
      so_far.written,
      Appends-kept _ _ _ _ so_far.wrote c.flushed-in-Err-Read.ensures.kept,
      flushed_does c.args.stop _ c.flushed-in-Err-Read.result text plan so_far.script (g.M.MapView.map c.args.store) c.args.depth so_far.written _ _ all few (so_far.now, through-answered c.args.stop _ so_far.script so_far.written so_far.now so_far.told) (so_far.script, all, few, (so_far.now, so_far.told)) c.flushed-in-Err-Read.ensures.ended,
    )

pub returns-in-Err-Length-clause-does : goal.returns-in-Err-Length-clause-does
returns-in-Err-Length-clause-does g c = λ text plan rows h opens.
    let so_far = c.loop-turn.invariant.done text plan h in
    let all = job_taken g.R.Read.remaining text plan so_far.script c.loop-turn.reader rows opens so_far.read in
    let few : length so_far.script ≤ 1000000 = omega (arith, so_far.count, c.loop-turn.invariant.few) in
    let (next, begins, other, some) = c.in-Err-Length.ensures.length (search rules) text (plan ++ so_far.script) so_far.read in (
      so_far.written,
      Appends-kept _ _ _ _ so_far.wrote c.flushed-in-Err-Length.ensures.kept,
      flushed_does c.args.stop _ c.flushed-in-Err-Length.result text plan so_far.script (g.M.MapView.map c.args.store) c.args.depth so_far.written _ _ all few (so_far.now, through-answered c.args.stop _ so_far.script so_far.written so_far.now so_far.told)
          (so_far.script, next, all, begins, other-seven (plan ++ so_far.script) next some all.seven other, few, (so_far.now, so_far.told)) c.flushed-in-Err-Length.ensures.ended,
    )

pub returns-in-Err-Memory-clause-does : goal.returns-in-Err-Memory-clause-does
returns-in-Err-Memory-clause-does g c = λ text plan rows h opens.
    let so_far = c.loop-turn.invariant.done text plan h in
    let all = job_taken g.R.Read.remaining text plan so_far.script c.loop-turn.reader rows opens so_far.read in
    let few : length so_far.script ≤ 1000000 = omega (arith, so_far.count, c.loop-turn.invariant.few) in
    (so_far.written, so_far.wrote, (so_far.script, all, few, front-whole _ _ so_far.script so_far.written (so_far.now, through-answered c.args.stop _ so_far.script so_far.written so_far.now so_far.told)))

pub returns-then-turn-eq1000000-clause-does : goal.returns-then-turn-eq1000000-clause-does
returns-then-turn-eq1000000-clause-does g c = λ text plan rows h opens.
    let so_far = c.loop-turn.invariant.done text plan h in
    let fields = fields_of c.next_row.new.row in
    let after = c.in-Ok-true.ensures.more c.in-Ok-true.field-0-test text (plan ++ so_far.script) so_far.read in
    let before = job_taken g.R.Read.remaining text plan so_far.script c.loop-turn.reader rows opens so_far.read in
    let all = job_taken_next g.R.Read.remaining text plan so_far.script fields _ rows opens after in
    let few : length so_far.script ≤ 1000000 = omega (arith, so_far.count, c.loop-turn.invariant.few) in (
      so_far.written,
      Appends-kept _ _ _ _ so_far.wrote c.flushed-then-turn-eq1000000.ensures.kept,
      flushed_does c.args.stop _ c.flushed-then-turn-eq1000000.result text plan so_far.script (g.M.MapView.map c.args.store) c.args.depth so_far.written _ _ before few (so_far.now, through-answered c.args.stop _ so_far.script so_far.written so_far.now so_far.told)
          (so_far.script, fields, all, so_far.count ∙ c.if-turn-eq1000000.true, (so_far.now, so_far.told)) c.flushed-then-turn-eq1000000.ensures.ended,
    )

pub returns-in-Err-answer_of_row-clause-does : goal.returns-in-Err-answer_of_row-clause-does
returns-in-Err-answer_of_row-clause-does g c = λ text plan rows h opens.
    let so_far = c.loop-turn.invariant.done text plan h in
    let all = job_taken g.R.Read.remaining text plan so_far.script c.loop-turn.reader rows opens so_far.read in
    let few : length so_far.script ≤ 1000000 = omega (arith, so_far.count, c.loop-turn.invariant.few) in
    (so_far.written, so_far.wrote, (so_far.script, all, few, front-whole _ _ so_far.script so_far.written (so_far.now, through-answered c.args.stop _ so_far.script so_far.written so_far.now so_far.told)))

pub returns-in-Err-write_all-clause-does : goal.returns-in-Err-write_all-clause-does
returns-in-Err-write_all-clause-does g c = λ text plan rows h opens.
    let so_far = c.loop-turn.invariant.done text plan h in
    let fields = fields_of c.next_row.new.row in
    let after = c.in-Ok-true.ensures.more c.in-Ok-true.field-0-test text (plan ++ so_far.script) so_far.read in
    let longer = length_push so_far.script fields in
    let few : length (so_far.script ++ (fields ∷ [])) ≤ 1000000 = omega (arith, so_far.count, c.loop-turn.invariant.few, longer) in
    let (end, answered, standing) = c.in-Ok-answer_of_row.ensures.told so_far.now so_far.stands in
    let (front, front_of, grown) = c.in-Err-write_all.ensures.err in
    let (rest, whole) = front_of in
    let more = AreAnswered-more (beginning (g.M.MapView.map c.args.store) c.args.depth) so_far.script so_far.written so_far.now fields _ end (through-answered c.args.stop _ so_far.script so_far.written so_far.now so_far.told) answered in (
      so_far.written ++ front,
      Appends-trans _ _ _ _ _ so_far.wrote grown,
      (
        so_far.script ++ (fields ∷ []),
        job_taken_more g.R.Read.remaining text plan so_far.script fields _ rows opens after,
        few,
        (_, (end, more), (rest, ap (λ (t : List ℕ). so_far.written ++ t) (sym c.as_slice.ensures.value ∙ whole) ∙ sym (append_assoc so_far.written front rest))),
      ),
    )

pub loop-turn-preserved : goal.loop-turn-preserved
loop-turn-preserved g c =
    let fields = fields_of c.next_row.new.row in
    let start = beginning (g.M.MapView.map c.args.store) c.args.depth in
    let (h, standing) = c.loop-turn.invariant.some in
    let (next, answered, stands) = c.in-Ok-answer_of_row.ensures.told h standing in
    let goes_on : c.args.stop ≡ true → stops c.in-Ok-answer_of_row.text.items ≡ false = elim c.else-stop.branch [
      | else-stop-via-then-stop+else-stops w ↦ λ stop. ap stops (sym w.as_slice-then-stop.ensures.value) ∙ sym w.stops.ensures ∙ w.if-stops.false
      | else-stop-via-else-stop w ↦ λ stop. let bad : false ≡ true = sym w.if-stop.false ∙ stop in cc
    ] in
    record {
      done = λ text plan h.
          let so_far = c.loop-turn.invariant.done text plan h in
          let after = c.in-Ok-true.ensures.more c.in-Ok-true.field-0-test text (plan ++ so_far.script) so_far.read in
          let (end, answered, stands) = c.in-Ok-answer_of_row.ensures.told so_far.now so_far.stands in
          record {
            script = so_far.script ++ (fields ∷ []);
            written = so_far.written ++ _;
            now = end;
            read = rw (← append_assoc plan so_far.script (fields ∷ [])) after;
            count = length_push so_far.script fields ∙ ap (λ n. n + 1) so_far.count;
            told = AreGoneThrough-more c.args.stop start so_far.script so_far.written so_far.now fields _ end so_far.told answered goes_on;
            stands = stands;
            wrote = Appends-trans _ _ _ _ _ so_far.wrote (rw c.as_slice.ensures.value at c.in-Ok-write_all.ensures.ok);
          };
      some = (next, stands);
      few = omega arith;
      quiet = c.in-Ok-write_all.ensures.passed ∙ c.loop-turn.invariant.quiet;
    }

pub returns-then-stops-clause-does : goal.returns-then-stops-clause-does
returns-then-stops-clause-does g c = λ text plan rows h opens.
    let so_far = c.loop-turn.invariant.done text plan h in
    let fields = fields_of c.next_row.new.row in
    let answer = c.in-Ok-answer_of_row.text.items in
    let start = beginning (g.M.MapView.map c.args.store) c.args.depth in
    let after = c.in-Ok-true.ensures.more c.in-Ok-true.field-0-test text (plan ++ so_far.script) so_far.read in
    let all = job_taken_more g.R.Read.remaining text plan so_far.script fields _ rows opens after in
    let longer = length_push so_far.script fields in
    let few : length (so_far.script ++ (fields ∷ [])) ≤ 1000000 = omega (arith, so_far.count, c.loop-turn.invariant.few, longer) in
    let counted : c.loop-turn.turn + 1 ≡ length so_far.script + 1 = ap (λ n. n + 1) (sym so_far.count) in
    let within : c.loop-turn.turn + 1 ≤ 1000000 = omega (arith, so_far.count, few, longer) in
    let (end, answered, standing) = c.in-Ok-answer_of_row.ensures.told so_far.now so_far.stands in
    let more = AreAnswered-more start so_far.script so_far.written so_far.now fields answer end (through-answered c.args.stop _ so_far.script so_far.written so_far.now so_far.told) answered in
    let through : AreGoneThrough true start so_far.script so_far.written so_far.now =
    subst (λ (s : Bool). AreGoneThrough s start so_far.script so_far.written so_far.now) c.if-stop.true so_far.told in
    let halts : stops answer ≡ true = ap stops (sym c.as_slice-then-stop.ensures.value) ∙ sym c.stops.ensures ∙ c.if-stops.true in (
      so_far.written ++ answer,
      Appends-kept _ _ _ _ (Appends-trans _ _ _ _ _ so_far.wrote (rw c.as_slice.ensures.value at c.in-Ok-write_all.ensures.ok)) c.flushed-then-stops.ensures.kept,
      flushed_does c.args.stop _ c.flushed-then-stops.result text plan (so_far.script ++ (fields ∷ [])) (g.M.MapView.map c.args.store) c.args.depth (so_far.written ++ answer) _ _ all few (end, more)
          (c.if-stop.true, so_far.script, fields, all, counted, within, (so_far.now, so_far.written, answer, end, through, answered, halts, refl)) c.flushed-then-stops.ensures.ended,
    )
