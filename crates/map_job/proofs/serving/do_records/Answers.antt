use Rattle.std.proofs.Common.{◌≡◌, ◌∙◌, ◌+◌, ◌<◌, ◌++◌, ◌∷◌, [], length, map, take, take_all, sym, subst, ap, arith}
use Rattle.std.proofs.lemmas.List.{take_more, map_push}
use Rattle.csv.specs.Records.{fields_of}
use Rattle.map_job.specs.Batches.{IsBatch}
use Rattle.map_job.proofs.serving.do_records.Goals as goal

pub loop-record-preserved : goal.loop-record-preserved
loop-record-preserved g c =
    let i = c.loop-record.record-index in
    let records = c.args.records.now in
    let item = c.record-item.result in
    let within : i < length records = omega arith in
    let more : take (i + 1) records ≡ take i records ++ item ∷ [] = take_more records i item within ∙ ap (λ x. take i records ++ x ∷ []) (sym c.record-item.is) in
    let mapped : map fields_of (take (i + 1) records) ≡ map fields_of (take i records) ++ fields_of item ∷ [] = ap (map fields_of) more ∙ map_push fields_of (take i records) item in (
      c.in_ok-do_record.ensures.stands,
      omega (arith, c.in_ok-do_record.ensures.few, c.loop-record.invariant.1),
      λ h stands.
          let was = c.loop-record.invariant.2 h stands in
          let went = c.in_ok-do_record.ensures.done h was.0 (map fields_of (take i records)) was.1 was.2 in
          (went.0, subst (λ script. IsBatch h script c.do_record.new.batch.lines.items c.do_record.new.batch.answers.items went.0) (sym mapped) went.1, went.2),
    )

pub returns-clause-done : goal.returns-clause-done
returns-clause-done g c h stands =
    let was = c.loop-record.invariant.2 h stands in
    (was.0, rw (take_all c.loop-record.record-index c.args.records.now c.loop-record-test.false) at was.1, was.2)
