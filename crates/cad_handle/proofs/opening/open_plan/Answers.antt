use Rattle.std.proofs.Common.{inl, inr}
use Rattle.csv.specs.Reading.{strip_bom}
use Rattle.map_parts.specs.Parts.{map_of}
use Rattle.cad_files.specs.Plan.{opened}
use Rattle.cad_files.proofs.FewRecords.{few-opened}
use Rattle.cad_files.proofs.SevenFields.{taken-plan}
use Rattle.cad_handle.proofs.opening.open_plan.Goals as goal

pub returns-in-Err-clause-faulty : goal.returns-in-Err-clause-faulty
returns-in-Err-clause-faulty c = λ read memory. inl (c.in-Err.ensures.err (strip_bom c.args.plan.now) c.records_of-reader.ensures read memory)

pub returns-in-Err-store_of-clause-faulty : goal.returns-in-Err-store_of-clause-faulty
returns-in-Err-store_of-clause-faulty c = λ _ memory.
    let (plan, read, opens) = c.in-Ok.ensures.ok (strip_bom c.args.plan.now) c.records_of-reader.ensures in
    let all = taken-plan _ (strip_bom c.args.plan.now) plan _ (opened _) opens (λ e. cc e) (λ e. cc e) read in
    inr (plan, _, all, opens, few-opened plan _ opens, c.in-Err-store_of.ensures.err memory)

pub returns-in-Ok-new-clause-opened : goal.returns-in-Ok-new-clause-opened
returns-in-Ok-new-clause-opened c =
    let (plan, read, opens) = c.in-Ok.ensures.ok (strip_bom c.args.plan.now) c.records_of-reader.ensures in
    let all = taken-plan _ (strip_bom c.args.plan.now) plan _ (opened _) opens (λ e. cc e) (λ e. cc e) read in
    rw c.in-Ok-new.ensures.ok (plan, _, map_of c.in-Ok-store_of.store, all, opens, few-opened plan _ opens, c.in-Ok-store_of.ensures.ok, c.in-Ok-open.ensures.opened, c.new-answer.ensures.items)
