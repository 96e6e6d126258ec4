use Rattle.cad_job.proofs.JobFacts.{done_to_its_end, ended_as_well}
use Rattle.cad_job.proofs.job.run_script.Goals as goal

pub returns-in-Ok-clause-does : goal.returns-in-Ok-clause-does
returns-in-Ok-clause-does g c = λ text plan rows h opens.
    let (written, wrote, does) = c.do_script.ensures.does text plan rows h opens in
    (written, wrote, done_to_its_end {X = Unit {0}} _ (record {}) text plan (g.M.MapView.map c.args.store) c.args.depth written (rw c.in-Ok.is at does))

pub returns-in-Err-clause-does : goal.returns-in-Err-clause-does
returns-in-Err-clause-does g c = λ text plan rows h opens.
    let (written, wrote, does) = c.do_script.ensures.does text plan rows h opens in
    (written, wrote, ended_as_well (Unit {0}) _ text plan (g.M.MapView.map c.args.store) c.args.depth written (rw c.in-Err.is at does))
