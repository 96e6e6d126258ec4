use Rattle.std.specs.Prelude.{ℕ, List, false}
use Rattle.std.specs.Io.KnownBytes.{Appends}
use Rattle.csv.specs.Reading.{strip_bom}
use Rattle.cad_files.proofs.CallerLemmas.{if_some}
use Rattle.cad_job.specs.Stopped.{DoesJobUntil}
use Rattle.cad_job.proofs.JobFacts.{job_done, job_ended}
use Rattle.cad_job.proofs.job.run_job.Goals as goal

pub returns-in-Ok-clause-does : goal.returns-in-Ok-clause-does
returns-in-Ok-clause-does g c = if_some
    {P = λ input. (written : List ℕ) × Appends (g.S.Sink.taken c.args.sink.now) (g.S.Sink.taken c.do_job.new.sink) written × DoesJobUntil false (strip_bom input) c.args.depth written c.do_job.result}
    _ (λ input done.
    let (written, wrote, does) = done in
    (written, wrote, job_done {X = Unit {0}} _ (record {}) (strip_bom input) c.args.depth written (rw c.in-Ok.is at does))) c.do_job.ensures.does

pub returns-in-Err-clause-does : goal.returns-in-Err-clause-does
returns-in-Err-clause-does g c = if_some
    {P = λ input. (written : List ℕ) × Appends (g.S.Sink.taken c.args.sink.now) (g.S.Sink.taken c.do_job.new.sink) written × DoesJobUntil false (strip_bom input) c.args.depth written c.do_job.result}
    _ (λ input done.
    let (written, wrote, does) = done in
    (written, wrote, job_ended _ (strip_bom input) c.args.depth written (rw c.in-Err.is at does))) c.do_job.ensures.does
