use Rattle.std.proofs.Common.{[], inl, inr}
use Rattle.csv.specs.Reading.{strip_bom}
use Rattle.std.proofs.KnownBytes.{Appends-nil}
use Rattle.cad_files.proofs.FewRecords.{few-opened}
use Rattle.map_parts.specs.Parts.{map_of}
use Rattle.cad_files.proofs.CallerLemmas.{if_some}
use Rattle.cad_job.proofs.JobFacts.{script_job, fault_job, job_read}
use Rattle.cad_job.proofs.job.do_job.Goals as goal

pub returns-in-Err-clause-does : goal.returns-in-Err-clause-does
returns-in-Err-clause-does g c = if_some _ (λ input start.
    let err = c.in-Err.ensures.err (strip_bom input) start in
    ([], Appends-nil _, rw c.fault_of_plan.ensures (fault_job c.args.stop c.in-Err.fault (strip_bom input) c.args.depth (λ read memory. inl (err read memory))))) c.records_of-reader.ensures

pub returns-in-Err-store_of-clause-does : goal.returns-in-Err-store_of-clause-does
returns-in-Err-store_of-clause-does g c = if_some _ (λ input start.
    let (plan, read, opens) = c.in-Ok.ensures.ok (strip_bom input) start in (
      [],
      Appends-nil _,
      rw c.fault_of_plan-in-Err-store_of.ensures (fault_job c.args.stop c.in-Err-store_of.fault (strip_bom input) c.args.depth (λ _ memory. let read_all = job_read g.R.Read.remaining (strip_bom input) plan _ _ opens read in
          inr (plan, _, read_all, opens, few-opened plan _ opens, c.in-Err-store_of.ensures.err memory))),
    )) c.records_of-reader.ensures

pub returns-clause-does : goal.returns-clause-does
returns-clause-does g c = if_some _ (λ input start.
    let (plan, read, opens) = c.in-Ok.ensures.ok (strip_bom input) start in
    let built = c.in-Ok-store_of.ensures.ok in
    let (written, wrote, does) = c.do_on_map.ensures.does (strip_bom input) plan _ read opens in
    (written, wrote, script_job c.args.stop c.do_on_map.result (strip_bom input) plan _ (map_of c.in-Ok-store_of.store) c.args.depth written opens built does)) c.records_of-reader.ensures
