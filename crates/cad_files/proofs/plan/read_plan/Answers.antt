use Rattle.std.proofs.Common.{rules, ◌≡◌, ◌++◌, ◌∷◌, [], ℕ, List, length, length-append, refl, ap, sym, ◌∙◌, inl, inr, arith}
use Rattle.std.proofs.lemmas.List.Elements.{All-nil}
use Rattle.csv.specs.Records.{fields_of}
use Rattle.cad_files.specs.Plan.{beginning, faulty, is_unfinished}
use Rattle.cad_files.specs.Plan.HasPlanFault.{of_record, of_first, of_length, of_end}
use Rattle.cad_files.specs.declared.faults.PlanFault.TheVariants as faults
use Rattle.cad_files.proofs.InputFacts.{begins}
use Rattle.cad_files.proofs.PlanFacts.{plan_of-more, fewer_left}
use Rattle.cad_files.proofs.SevenFields.{first-other, seven_or_not, taken-first, taken, taken-plan, other-seven}
use Rattle.cad_files.proofs.FewRecords.{few-reading}
use Rattle.cad_files.proofs.plan.read_plan.Goals as goal

pub returns-in-Ok-false-clause-err : goal.returns-in-Ok-false-clause-err
returns-in-Ok-false-clause-err g c = λ text h nr nm.
    let whole = c.in-Ok-false.ensures.ends c.in-Ok-false.field-0-test text [] h in
    of_end [] (record { begins = begins _ _ _ _ h; seven = All-nil (λ (fields : List (List ℕ)). length fields ≡ 7) }) whole (omega arith) refl

pub returns-in-Err-clause-err : goal.returns-in-Err-clause-err
returns-in-Err-clause-err g c = λ text h nr nm.
    let fields = fields_of c.next_row.new.row in
    let read = c.in-Ok-true.ensures.more c.in-Ok-true.field-0-test text [] h in
    elim (seven_or_not fields) [
      | inl seven ↦ of_record [] fields (taken-first _ text fields _ read seven) (omega arith) refl (plan_of-more [] _ beginning _ refl c.in-Err.ensures.err)
      | inr other ↦
          let same : faulty (faults.Syntax 1) ≡ faulty c.in-Err.fault = sym (first-other fields other) ∙ c.in-Err.ensures.err in
          let is : faults.Syntax 1 ≡ c.in-Err.fault = cc in
          rw (sym is) (of_first fields (begins _ _ _ _ read) other)
    ]

pub loop-rows-init : goal.loop-rows-init
loop-rows-init g c = record {
  read = λ text h.
      (fields_of c.next_row.new.row ∷ [], c.in-Ok-true.ensures.more c.in-Ok-true.field-0-test text [] h, rw c.new-rows.ensures (plan_of-more [] _ beginning _ refl c.in-Ok.ensures.ok));
  counted = rw c.new-rows.ensures refl;
  few = rw c.new-rows.ensures (omega arith);
}

pub returns-in-Ok-false-next_row-clause-err : goal.returns-in-Ok-false-next_row-clause-err
returns-in-Ok-false-next_row-clause-err g c = λ text h nr nm.
    let (rows, read, p) = c.loop-rows.invariant.read text h in
    of_end rows (taken-plan _ text rows _ _ p (λ e. cc e) (λ e. cc e) read) (c.in-Ok-false-next_row.ensures.ends c.in-Ok-false-next_row.field-0-test text rows read) (few-reading rows _ _ _ p) (ap is_unfinished p)

pub take_row-requires : goal.take_row-requires
take_row-requires g c = let few = c.loop-rows.invariant.few in let counted = c.loop-rows.invariant.counted in omega (arith, few, counted)

pub returns-in-Ok-false-take_row-clause-ok : goal.returns-in-Ok-false-take_row-clause-ok
returns-in-Ok-false-take_row-clause-ok g c = λ text h.
    let (rows, read, p) = c.loop-rows.invariant.read text h in
    let step = rw c.in-Ok-false-take_row.field-0-test at c.in-Ok-false-take_row.ensures.ok in
    (rows ++ (fields_of c.next_row-in-loop-rows.new.row ∷ []), c.in-Ok-true-next_row.ensures.more c.in-Ok-true-next_row.field-0-test text rows read, plan_of-more rows _ _ _ p step)

pub returns-in-Err-take_row-clause-err : goal.returns-in-Err-take_row-clause-err
returns-in-Err-take_row-clause-err g c = λ text h nr nm.
    let (rows, read, p) = c.loop-rows.invariant.read text h in
    let fields = fields_of c.next_row-in-loop-rows.new.row in
    let more = c.in-Ok-true-next_row.ensures.more c.in-Ok-true-next_row.field-0-test text rows read in
    of_record rows fields (taken _ text rows (fields ∷ []) _ _ p (λ e. cc e) (λ e. cc e) more) (few-reading rows _ _ _ p) (ap is_unfinished p) (plan_of-more rows _ _ _ p (c.in-Err-take_row.ensures.err nm))

pub loop-rows-smaller : goal.loop-rows-smaller
loop-rows-smaller g c =
    let more = c.in-Ok-true-take_row.ensures.grows c.in-Ok-true-take_row.field-0-test in
    fewer_left _ _ more.count more.room

pub loop-rows-preserved : goal.loop-rows-preserved
loop-rows-preserved g c = record {
  read = λ text h.
      let (rows, read, p) = c.loop-rows.invariant.read text h in
      let step = rw c.in-Ok-true-take_row.field-0-test at c.in-Ok-true-take_row.ensures.ok in
      (rows ++ (fields_of c.next_row-in-loop-rows.new.row ∷ []), c.in-Ok-true-next_row.ensures.more c.in-Ok-true-next_row.field-0-test text rows read, plan_of-more rows _ _ _ p step);
  counted = let more = c.in-Ok-true-take_row.ensures.grows c.in-Ok-true-take_row.field-0-test in omega (arith, more.count, c.loop-rows.invariant.counted);
  few = let more = c.in-Ok-true-take_row.ensures.grows c.in-Ok-true-take_row.field-0-test in omega (arith, more.count, more.room);
}

pub returns-in-Err-clause-few : goal.returns-in-Err-clause-few
returns-in-Err-clause-few g c = λ of_reading text h.
    inr (fields_of c.next_row.new.row ∷ [], c.in-Ok-true.ensures.more c.in-Ok-true.field-0-test text [] h, omega arith)

pub returns-in-Err-take_row-clause-few : goal.returns-in-Err-take_row-clause-few
returns-in-Err-take_row-clause-few g c = λ of_reading text h.
    let (rows, read, p) = c.loop-rows.invariant.read text h in
    let fields = fields_of c.next_row-in-loop-rows.new.row in
    let many = length-append rows (fields ∷ []) in
    let few = few-reading rows _ _ _ p in
    inr (rows ++ fields ∷ [], c.in-Ok-true-next_row.ensures.more c.in-Ok-true-next_row.field-0-test text rows read, omega (arith, many, few))

pub returns-in-Err-Length-next_row-clause-err : goal.returns-in-Err-Length-next_row-clause-err
returns-in-Err-Length-next_row-clause-err g c = λ text h nr nm.
    let (rows, read, p) = c.loop-rows.invariant.read text h in
    let (next, begins, other, some) = c.in-Err-Length-next_row.ensures.length (search rules) text rows read in
    let taken = taken-plan _ text rows _ _ p (λ e. cc e) (λ e. cc e) read in
    of_length rows next taken begins (other-seven rows next some taken.seven other) some (few-reading rows _ _ _ p) (ap is_unfinished p)

pub returns-in-Err-Length-clause-err : goal.returns-in-Err-Length-clause-err
returns-in-Err-Length-clause-err g c = λ text h nr nm.
    let (next, begins, other, some) = c.in-Err-Length.ensures.length (search rules) text [] h in
    absurd (omega (arith, some))

pub returns-in-Err-Read-clause-few : goal.returns-in-Err-Read-clause-few
returns-in-Err-Read-clause-few g c = λ of_reading text h. inl (c.in-Err-Read.ensures.failed (search rules) text [] h)

pub returns-in-Err-Memory-clause-few : goal.returns-in-Err-Memory-clause-few
returns-in-Err-Memory-clause-few g c = λ of_reading text h. inl (c.in-Err-Memory.ensures.failed (search rules) text [] h)

pub returns-in-Err-Read-next_row-clause-few : goal.returns-in-Err-Read-next_row-clause-few
returns-in-Err-Read-next_row-clause-few g c = λ of_reading text h.
    let (rows, read, p) = c.loop-rows.invariant.read text h in
    inl (c.in-Err-Read-next_row.ensures.failed (search rules) text rows read)

pub returns-in-Err-Memory-next_row-clause-few : goal.returns-in-Err-Memory-next_row-clause-few
returns-in-Err-Memory-next_row-clause-few g c = λ of_reading text h.
    let (rows, read, p) = c.loop-rows.invariant.read text h in
    inl (c.in-Err-Memory-next_row.ensures.failed (search rules) text rows read)
