use Rattle.cad_files.proofs.AgainFacts.{plan_text_again, plan_again}
use Rattle.cad_files.proofs.BuiltAgain.{built_again}
use Rattle.cad_files.proofs.OneMap.{one-plan}
use Rattle.cad_files.specs.Building.{rows_of}
use Rattle.cad_files.specs.Texts.{plan_records}
use Rattle.cad_files.proofs.plan_texts.plans_again.Goals as goal

pub returns-clause-text : goal.returns-clause-text
returns-clause-text c = plan_text_again

pub returns-clause-read : goal.returns-clause-read
returns-clause-read c = plan_again

pub returns-clause-built : goal.returns-clause-built
returns-clause-built c = built_again

pub returns-clause-only : goal.returns-clause-only
returns-clause-only c = λ m n valid plan. one-plan (plan_records m) n m plan (record { rows = rows_of m; opens = plan_again m valid; built = built_again m valid })
