use Rattle.cad_files.proofs.OneMap.{one-plan, one-plan_fault, plan-no_fault}
use Rattle.cad_files.proofs.plan_texts.one_plan.Goals as goal

pub returns-clause-map : goal.returns-clause-map
returns-clause-map c = one-plan

pub returns-clause-fault : goal.returns-clause-fault
returns-clause-fault c = one-plan_fault

pub returns-clause-either : goal.returns-clause-either
returns-clause-either c = plan-no_fault
