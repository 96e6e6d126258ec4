-- What a job does with an input.
use Rattle.std.specs.Prelude.{◌≡◌, ◌≢◌, ◌⊎◌, ◌≤◌, ℕ, ◌+◌, List, [], ◌∷◌, ◌++◌, length, Result, Ok, Err}
use Rattle.cad_map.specs.Map.{Map}
use Rattle.cad_history.specs.History.{History, beginning}
use Rattle.cad_files.specs.Input.{BeginsWith, IsWhole, AreTaken}
use Rattle.cad_files.specs.Sinks.{IsFront}
use Rattle.cad_files.specs.Rows.{Rows, plan_limit}
use Rattle.cad_files.specs.Plan.{plan_of, opened}
use Rattle.cad_files.specs.Building.{IsBuilt}
use Rattle.cad_files.specs.declared.faults.PlanFault.{PlanFault}
use Rattle.cad_files.specs.declared.faults.PlanFault.TheVariants as plan_fault
use Rattle.cad_session.specs.Answered.{AreAnswered}
use Rattle.cad_session.specs.Opening.{IsFaultyPlan}
use Rattle.cad_job.specs.declared.faults.JobFault.{JobFault}
use Rattle.cad_job.specs.declared.faults.JobFault.TheVariants as fault

-- ---- The script

-- the bytes are the answers to the script's records in order, by an editor of this depth that was opened on the map
abbrev pub IsJobText : Map → ℕ → List (List (List ℕ)) → List ℕ → Type 0
IsJobText m depth script text = (end : History) × AreAnswered (beginning m depth) script text end

-- the bytes begin the answers to the script's records
abbrev pub BeginsJobText : Map → ℕ → List (List (List ℕ)) → List ℕ → Type 0
BeginsJobText m depth script written = (whole : List ℕ) × IsJobText m depth script whole × IsFront written whole

-- ---- The job

-- the most records of a script
abbrev pub script_limit : ℕ
script_limit = 1000000

-- What was written for a text whose records begin with a plan of this map, and which records of its script were taken: each of all these has seven fields.
-- Done: the answers to all the records of the script, at most 1,000,000.
-- Read: the answers to the records that were read before.
-- Length: the answers to the records before one that hasn't seven fields.
-- Long: the answers to the first 1,000,000 records, and there is one more.
-- Write and Memory: a front of the answers to some first records.
abbrev pub DoesScript : {X : Type 0} → List ℕ → List (List (List ℕ)) → Map → ℕ → List ℕ → Result X JobFault → Type 0
DoesScript text plan m depth written (Ok _) = (script : List (List (List ℕ))) × IsWhole text (plan ++ script) × AreTaken text (plan ++ script) × (length script ≤ script_limit) × IsJobText m depth script written
DoesScript text plan m depth written (Err (fault.Plan f)) = ⊥
DoesScript text plan m depth written (Err fault.Read) = (script : List (List (List ℕ))) × AreTaken text (plan ++ script) × (length script ≤ script_limit) × IsJobText m depth script written
DoesScript text plan m depth written (Err fault.Length) = (script : List (List (List ℕ))) × (next : List (List ℕ)) × AreTaken text (plan ++ script) × BeginsWith text (plan ++ script ++ next ∷ []) × (length next ≢ 7) × (length script ≤ script_limit) × IsJobText m depth script written
DoesScript text plan m depth written (Err fault.Long) = (script : List (List (List ℕ))) × (next : List (List ℕ)) × AreTaken text (plan ++ script ++ next ∷ []) × (length script ≡ script_limit) × IsJobText m depth script written
DoesScript text plan m depth written (Err fault.Write) = (script : List (List (List ℕ))) × AreTaken text (plan ++ script) × (length script ≤ script_limit) × BeginsJobText m depth script written
DoesScript text plan m depth written (Err fault.Memory) = (script : List (List (List ℕ))) × AreTaken text (plan ++ script) × (length script ≤ script_limit) × BeginsJobText m depth script written

-- the text was a plan of a valid map, of at most 600,002 records, and the rest was done as a script
abbrev pub DoesPlanned : {X : Type 0} → List ℕ → ℕ → List ℕ → Result X JobFault → Type 0
DoesPlanned text depth written result =
    (plan : List (List (List ℕ))) × (rows : Rows) × (m : Map) × (plan_of plan ≡ opened rows) × (length plan ≤ plan_limit + 2) × IsBuilt rows m × DoesScript text plan m depth written result

-- The same of a whole job. Plan: nothing was written, and the plan has that fault. Length: the same of a record of the plan,
-- or as of a script. Read and Memory may also come before the script, and then nothing was written.
abbrev pub DoesJob : {X : Type 0} → List ℕ → ℕ → List ℕ → Result X JobFault → Type 0
DoesJob text depth written (Ok x) = DoesPlanned text depth written (Ok x)
DoesJob text depth written (Err (fault.Plan f)) =
    (written ≡ []) × (f ≢ plan_fault.Read) × (f ≢ plan_fault.Length) × (f ≢ plan_fault.Memory) × IsFaultyPlan text f
DoesJob text depth written (Err fault.Length) =
    ((written ≡ []) × IsFaultyPlan text plan_fault.Length) ⊎ DoesPlanned {X = Unit {0}} text depth written (Err fault.Length)
DoesJob text depth written (Err fault.Long) = DoesPlanned {X = Unit {0}} text depth written (Err fault.Long)
DoesJob text depth written (Err fault.Write) = DoesPlanned {X = Unit {0}} text depth written (Err fault.Write)
DoesJob text depth written (Err fault.Read) = (written ≡ []) ⊎ DoesPlanned {X = Unit {0}} text depth written (Err fault.Read)
DoesJob text depth written (Err fault.Memory) = (written ≡ []) ⊎ DoesPlanned {X = Unit {0}} text depth written (Err fault.Memory)

-- what a plan's fault is to a job
abbrev pub job_fault : PlanFault → JobFault
job_fault plan_fault.Read = fault.Read
job_fault plan_fault.Length = fault.Length
job_fault plan_fault.Memory = fault.Memory
job_fault f = fault.Plan f
