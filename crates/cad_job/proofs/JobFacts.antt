-- From the parts of a job to the whole.
use Rattle.std.proofs.Common.{◌≡◌, ◌≢◌, ◌≤◌, sym, refl, ℕ, List, [], ◌∷◌, ◌++◌, append-nil, append_assoc, subst, Bool, true, false, Option, Some, None, Result, Ok, Err, inl, inr, ◌⊎◌, IfOk, length}
use Rattle.csv.specs.declared.reader.Reader.{Reader}
use Rattle.cad_map.specs.Map.{Map}
use Rattle.cad_files.specs.Input.{HasRead, AreTaken}
use Rattle.cad_files.specs.Rows.{Rows}
use Rattle.cad_files.specs.Plan.{plan_of, opened}
use Rattle.cad_files.specs.Building.{IsBuilt}
use Rattle.cad_files.specs.declared.faults.PlanFault.{PlanFault}
use Rattle.cad_files.specs.declared.faults.PlanFault.TheVariants as plan_faults
use Rattle.cad_files.proofs.FewRecords.{few-opened}
use Rattle.cad_files.proofs.SevenFields.{taken, taken-plan}
use Rattle.cad_session.specs.Opening.{IsFaultyPlan}
use Rattle.cad_job.specs.Jobs.{DoesPlanned, DoesScript, DoesJob, IsJobText, BeginsJobText, job_fault, script_limit}
use Rattle.cad_job.specs.Stopped.{DoesJobUntil, DoesPlannedUntil, DoesUntil}
use Rattle.cad_job.proofs.ScriptFacts.{through-answered}
use Rattle.cad_job.specs.declared.faults.JobFault.{JobFault}
use Rattle.cad_job.specs.declared.faults.JobFault.TheVariants as faults

-- what was done of a script was done of the job
pub script_job : (stop : Bool) (result : Result (Option ℕ) JobFault) (text : List ℕ) (plan : List (List (List ℕ))) (rows : Rows) (m : Map) (depth : ℕ) (written : List ℕ)
    → plan_of plan ≡ opened rows → IsBuilt rows m → DoesUntil stop text plan m depth written result → DoesJobUntil stop text depth written result
script_job stop (Ok x) text plan rows m depth written p b h = (plan, rows, m, p, few-opened plan rows p, b, h)
script_job stop (Err (faults.Plan fault)) text plan rows m depth written p b h = absurd h
script_job stop (Err faults.Read) text plan rows m depth written p b h = inr (plan, rows, m, p, few-opened plan rows p, b, h)
script_job stop (Err faults.Length) text plan rows m depth written p b h = inr (plan, rows, m, p, few-opened plan rows p, b, h)
script_job stop (Err faults.Long) text plan rows m depth written p b h = (plan, rows, m, p, few-opened plan rows p, b, h)
script_job stop (Err faults.Write) text plan rows m depth written p b h = (plan, rows, m, p, few-opened plan rows p, b, h)
script_job stop (Err faults.Memory) text plan rows m depth written p b h = inr (plan, rows, m, p, few-opened plan rows p, b, h)

-- a fault of the plan ends the job with nothing written
pub fault_job : (stop : Bool) (fault : PlanFault) (text : List ℕ) (depth : ℕ) → (fault ≢ plan_faults.Read → fault ≢ plan_faults.Memory → IsFaultyPlan text fault) → DoesJobUntil stop text depth [] (Err (job_fault fault))
fault_job stop plan_faults.Read text depth h = inl refl
fault_job stop plan_faults.Memory text depth h = inl refl
fault_job stop plan_faults.Length text depth h = inl (refl, h (λ e. cc e) (λ e. cc e))
fault_job stop plan_faults.Version text depth h =
    let a : plan_faults.Version ≢ plan_faults.Read = λ e. cc e in let b : plan_faults.Version ≢ plan_faults.Memory = λ e. cc e in
    let d : plan_faults.Version ≢ plan_faults.Length = λ e. cc e in (refl, a, d, b, h a b)
fault_job stop plan_faults.NoOpen text depth h =
    let a : plan_faults.NoOpen ≢ plan_faults.Read = λ e. cc e in let b : plan_faults.NoOpen ≢ plan_faults.Memory = λ e. cc e in
    let d : plan_faults.NoOpen ≢ plan_faults.Length = λ e. cc e in (refl, a, d, b, h a b)
fault_job stop plan_faults.Full text depth h =
    let a : plan_faults.Full ≢ plan_faults.Read = λ e. cc e in let b : plan_faults.Full ≢ plan_faults.Memory = λ e. cc e in
    let d : plan_faults.Full ≢ plan_faults.Length = λ e. cc e in (refl, a, d, b, h a b)
fault_job stop (plan_faults.Syntax n) text depth h =
    let a : (plan_faults.Syntax n) ≢ plan_faults.Read = λ e. cc e in let b : (plan_faults.Syntax n) ≢ plan_faults.Memory = λ e. cc e in
    let d : (plan_faults.Syntax n) ≢ plan_faults.Length = λ e. cc e in (refl, a, d, b, h a b)
fault_job stop (plan_faults.Range n) text depth h =
    let a : (plan_faults.Range n) ≢ plan_faults.Read = λ e. cc e in let b : (plan_faults.Range n) ≢ plan_faults.Memory = λ e. cc e in
    let d : (plan_faults.Range n) ≢ plan_faults.Length = λ e. cc e in (refl, a, d, b, h a b)
fault_job stop (plan_faults.Taken n) text depth h =
    let a : (plan_faults.Taken n) ≢ plan_faults.Read = λ e. cc e in let b : (plan_faults.Taken n) ≢ plan_faults.Memory = λ e. cc e in
    let d : (plan_faults.Taken n) ≢ plan_faults.Length = λ e. cc e in (refl, a, d, b, h a b)
fault_job stop (plan_faults.Unknown n) text depth h =
    let a : (plan_faults.Unknown n) ≢ plan_faults.Read = λ e. cc e in let b : (plan_faults.Unknown n) ≢ plan_faults.Memory = λ e. cc e in
    let d : (plan_faults.Unknown n) ≢ plan_faults.Length = λ e. cc e in (refl, a, d, b, h a b)
fault_job stop (plan_faults.Dangling n) text depth h =
    let a : (plan_faults.Dangling n) ≢ plan_faults.Read = λ e. cc e in let b : (plan_faults.Dangling n) ≢ plan_faults.Memory = λ e. cc e in
    let d : (plan_faults.Dangling n) ≢ plan_faults.Length = λ e. cc e in (refl, a, d, b, h a b)
fault_job stop (plan_faults.Corner n) text depth h =
    let a : (plan_faults.Corner n) ≢ plan_faults.Read = λ e. cc e in let b : (plan_faults.Corner n) ≢ plan_faults.Memory = λ e. cc e in
    let d : (plan_faults.Corner n) ≢ plan_faults.Length = λ e. cc e in (refl, a, d, b, h a b)
fault_job stop (plan_faults.Labels n) text depth h =
    let a : (plan_faults.Labels n) ≢ plan_faults.Read = λ e. cc e in let b : (plan_faults.Labels n) ≢ plan_faults.Memory = λ e. cc e in
    let d : (plan_faults.Labels n) ≢ plan_faults.Length = λ e. cc e in (refl, a, d, b, h a b)
fault_job stop (plan_faults.Breaks r) text depth h =
    let a : (plan_faults.Breaks r) ≢ plan_faults.Read = λ e. cc e in let b : (plan_faults.Breaks r) ≢ plan_faults.Memory = λ e. cc e in
    let d : (plan_faults.Breaks r) ≢ plan_faults.Length = λ e. cc e in (refl, a, d, b, h a b)

-- a script that isn't to stop was done to its end
pub done_to_its_end : {X : Type 0} (n : Option ℕ) (x : X) (text : List ℕ) (plan : List (List (List ℕ))) (m : Map) (depth : ℕ) (written : List ℕ)
    → DoesUntil false text plan m depth written (Ok n) → DoesScript {X = X} text plan m depth written (Ok x)
done_to_its_end None x text plan m depth written (script, whole, all, few, (end, told)) = (script, whole, all, few, (end, through-answered false _ script written end told))
done_to_its_end (Some n) x text plan m depth written h = let bad : false ≡ true = h.0 in cc

pub ended_as_well : (X : Type 0) (f : JobFault) (text : List ℕ) (plan : List (List (List ℕ))) (m : Map) (depth : ℕ) (written : List ℕ)
    → DoesUntil false text plan m depth written (Err f) → DoesScript {X = X} text plan m depth written (Err f)
ended_as_well X (faults.Plan fault) text plan m depth written h = absurd h
ended_as_well X faults.Read text plan m depth written (script, all, few, (end, told)) = (script, all, few, (end, through-answered false _ script written end told))
ended_as_well X faults.Length text plan m depth written (script, next, all, begins, other, few, (end, told)) =
    (script, next, all, begins, other, few, (end, through-answered false _ script written end told))
ended_as_well X faults.Long text plan m depth written (script, next, all, most, (end, told)) = (script, next, all, most, (end, through-answered false _ script written end told))
ended_as_well X faults.Write text plan m depth written h = h
ended_as_well X faults.Memory text plan m depth written h = h

-- and so was a job
pub job_done : {X : Type 0} (n : Option ℕ) (x : X) (text : List ℕ) (depth : ℕ) (written : List ℕ) → DoesJobUntil false text depth written (Ok n) → DoesJob {X = X} text depth written (Ok x)
job_done n x text depth written (plan, rows, m, opens, few, built, does) = (plan, rows, m, opens, few, built, done_to_its_end n x text plan m depth written does)

planned_ended : (f : JobFault) (text : List ℕ) (depth : ℕ) (written : List ℕ) → DoesPlannedUntil false text depth written (Err f) → DoesPlanned {X = Unit {0}} text depth written (Err f)
planned_ended f text depth written (plan, rows, m, opens, few, built, does) = (plan, rows, m, opens, few, built, ended_as_well (Unit {0}) f text plan m depth written does)

pub job_ended : (f : JobFault) (text : List ℕ) (depth : ℕ) (written : List ℕ) → DoesJobUntil false text depth written (Err f) → DoesJob {X = Unit {0}} text depth written (Err f)
job_ended (faults.Plan fault) text depth written h = h
job_ended faults.Length text depth written (inl none) = inl none
job_ended faults.Length text depth written (inr h) = inr (planned_ended faults.Length text depth written h)
job_ended faults.Long text depth written h = planned_ended faults.Long text depth written h
job_ended faults.Write text depth written h = planned_ended faults.Write text depth written h
job_ended faults.Read text depth written (inl none) = inl none
job_ended faults.Read text depth written (inr h) = inr (planned_ended faults.Read text depth written h)
job_ended faults.Memory text depth written (inl none) = inl none
job_ended faults.Memory text depth written (inr h) = inr (planned_ended faults.Memory text depth written h)

-- no fault of a plan is told as a write fault
pub not_write : (fault : PlanFault) → job_fault fault ≡ faults.Write → ⊥
not_write plan_faults.Read h = cc
not_write plan_faults.Length h = cc
not_write plan_faults.Memory h = cc
not_write plan_faults.Version h = cc
not_write plan_faults.NoOpen h = cc
not_write plan_faults.Full h = cc
not_write (plan_faults.Syntax n) h = cc
not_write (plan_faults.Range n) h = cc
not_write (plan_faults.Taken n) h = cc
not_write (plan_faults.Unknown n) h = cc
not_write (plan_faults.Dangling n) h = cc
not_write (plan_faults.Corner n) h = cc
not_write (plan_faults.Labels n) h = cc
not_write (plan_faults.Breaks r) h = cc

-- all of a job text begins it
pub front-whole : (m : Map) (depth : ℕ) (script : List (List (List ℕ))) (written : List ℕ) → IsJobText m depth script written → BeginsJobText m depth script written
front-whole m depth script written told = (written, told, ([], sym (append-nil written)))

-- a script's end, or a write fault in its place
pub flushed_does : (stop : Bool) (end result : Result (Option ℕ) JobFault) (text : List ℕ) (plan script : List (List (List ℕ))) (m : Map) (depth : ℕ) (written : List ℕ) (P Q : Type 0)
    → AreTaken text (plan ++ script) → length script ≤ script_limit → IsJobText m depth script written → DoesUntil stop text plan m depth written end → ((result ≡ end) × P) ⊎ ((result ≡ Err faults.Write) × Q) → DoesUntil stop text plan m depth written result
flushed_does stop end result text plan script m depth written P Q taken few told does (inl h) = rw h.0 does
flushed_does stop end result text plan script m depth written P Q taken few told does (inr h) = rw h.0 (script, taken, few, front-whole m depth script written told)

-- the records of a job that stand behind an open plan
pub job_taken : {R : Type 0} (rem : R → Option (List ℕ)) (text : List ℕ) (plan script : List (List (List ℕ))) (reader : Reader R) (rows : Rows)
    → plan_of plan ≡ opened rows → HasRead rem text (plan ++ script) reader → AreTaken text (plan ++ script)
job_taken rem text plan script reader rows opens read = taken rem text plan script reader (opened rows) opens (λ e. cc e) (λ e. cc e) read

-- and with one record more
pub job_taken_more : {R : Type 0} (rem : R → Option (List ℕ)) (text : List ℕ) (plan script : List (List (List ℕ))) (fields : List (List ℕ)) (reader : Reader R) (rows : Rows)
    → plan_of plan ≡ opened rows → HasRead rem text (plan ++ script ++ fields ∷ []) reader → AreTaken text (plan ++ (script ++ fields ∷ []))
job_taken_more rem text plan script fields reader rows opens read =
    job_taken rem text plan (script ++ fields ∷ []) reader rows opens (subst (λ (l : List (List (List ℕ))). HasRead rem text l reader) (append_assoc plan script (fields ∷ [])) read)

pub job_taken_next : {R : Type 0} (rem : R → Option (List ℕ)) (text : List ℕ) (plan script : List (List (List ℕ))) (fields : List (List ℕ)) (reader : Reader R) (rows : Rows)
    → plan_of plan ≡ opened rows → HasRead rem text (plan ++ script ++ fields ∷ []) reader → AreTaken text (plan ++ script ++ fields ∷ [])
job_taken_next rem text plan script fields reader rows opens read =
    subst (λ (l : List (List (List ℕ))). AreTaken text l) (sym (append_assoc plan script (fields ∷ []))) (job_taken_more rem text plan script fields reader rows opens read)

-- the records of an open plan
pub job_read : {R : Type 0} (rem : R → Option (List ℕ)) (text : List ℕ) (plan : List (List (List ℕ))) (reader : Reader R) (rows : Rows)
    → plan_of plan ≡ opened rows → HasRead rem text plan reader → AreTaken text plan
job_read rem text plan reader rows opens read = taken-plan rem text plan reader (opened rows) opens (λ e. cc e) (λ e. cc e) read
