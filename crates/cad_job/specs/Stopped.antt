-- What a job does that may stop at a record which isn't carried out.
use Rattle.std.specs.Prelude.{◌≡◌, ◌≢◌, ◌⊎◌, ◌≤◌, ◌||◌, ◌==◌, ℕ, ◌+◌, Bool, true, false, List, [], ◌∷◌, ◌++◌, length, codes, Option, Some, None, Result, Ok, Err}
use Rattle.std.specs.List.{starts_with}
use Rattle.cad_map.specs.Map.{Map}
use Rattle.cad_history.specs.History.{History, beginning}
use Rattle.cad_files.specs.Input.{BeginsWith, IsWhole, AreTaken}
use Rattle.cad_files.specs.Rows.{Rows, plan_limit}
use Rattle.cad_files.specs.Plan.{plan_of, opened}
use Rattle.cad_files.specs.Building.{IsBuilt}
use Rattle.cad_files.specs.Line.{line_of}
use Rattle.cad_files.specs.declared.faults.PlanFault.TheVariants as plan_fault
use Rattle.cad_job.specs.declared.faults.JobFault.{JobFault}
use Rattle.cad_job.specs.declared.faults.JobFault.TheVariants as fault
use Rattle.cad_session.specs.Answered.{IsAnswered}
use Rattle.cad_session.specs.Opening.{IsFaultyPlan}
use Rattle.cad_job.specs.Jobs.{BeginsJobText, script_limit}

-- an answer that begins with this word
abbrev pub begins : List ℕ → List ℕ → Bool
begins answer word = starts_with (λ a b. a == b) answer word

-- an answer that stops a script: `refused`, `syntax` or `nothing`
abbrev pub stops : List ℕ → Bool
stops answer = begins answer (codes "refused,") || (begins answer (codes "syntax,") || begins answer (codes "nothing,"))

-- the records of a script are answered in turn by these bytes; where it is to stop, by none that stops it
abbrev pub AreGoneThrough : Bool → History → List (List (List ℕ)) → List ℕ → History → Type 0
AreGoneThrough stop old [] text new = (text ≡ []) × (new ≡ old)
AreGoneThrough stop old (fields ∷ script) text new =
    (mid : History) × (first : List ℕ) × (rest : List ℕ) × IsAnswered old (line_of fields) first mid
    × (stop ≡ true → stops first ≡ false) × AreGoneThrough stop mid script rest new × (text ≡ first ++ rest)

-- the bytes are the answers to the script's records, by an editor of this depth that was opened on the map
abbrev pub IsThrough : Bool → Map → ℕ → List (List (List ℕ)) → List ℕ → Type 0
IsThrough stop m depth script text = (end : History) × AreGoneThrough stop (beginning m depth) script text end

-- the same of records none of whose answers stops the script, and of one more, whose answer does
abbrev pub IsStoppedText : Map → ℕ → List (List (List ℕ)) → List (List ℕ) → List ℕ → Type 0
IsStoppedText m depth script last text =
    (mid : History) × (before : List ℕ) × (answer : List ℕ) × (end : History) × AreGoneThrough true (beginning m depth) script before mid
    × IsAnswered mid (line_of last) answer end × (stops answer ≡ true) × (text ≡ before ++ answer)

-- What was written for a text whose records begin with a plan of this map, and which records of its script were taken.
-- Done: the answers to all the records of the script, at most 1,000,000. Stopped: the answers to the first n of them.
-- Read, Length, Long, Write and Memory: as of a script that doesn't stop; before the first three no answer was one that stops it.
abbrev pub DoesUntil : Bool → List ℕ → List (List (List ℕ)) → Map → ℕ → List ℕ → Result (Option ℕ) JobFault → Type 0
DoesUntil stop text plan m depth written (Ok None) =
    (script : List (List (List ℕ))) × IsWhole text (plan ++ script) × AreTaken text (plan ++ script) × (length script ≤ script_limit) × IsThrough stop m depth script written
DoesUntil stop text plan m depth written (Ok (Some n)) =
    (stop ≡ true) × (script : List (List (List ℕ))) × (last : List (List ℕ)) × AreTaken text (plan ++ (script ++ last ∷ []))
    × (n ≡ length script + 1) × (n ≤ script_limit) × IsStoppedText m depth script last written
DoesUntil stop text plan m depth written (Err (fault.Plan f)) = ⊥
DoesUntil stop text plan m depth written (Err fault.Read) =
    (script : List (List (List ℕ))) × AreTaken text (plan ++ script) × (length script ≤ script_limit) × IsThrough stop m depth script written
DoesUntil stop text plan m depth written (Err fault.Length) =
    (script : List (List (List ℕ))) × (next : List (List ℕ)) × AreTaken text (plan ++ script) × BeginsWith text (plan ++ script ++ next ∷ [])
    × (length next ≢ 7) × (length script ≤ script_limit) × IsThrough stop m depth script written
DoesUntil stop text plan m depth written (Err fault.Long) =
    (script : List (List (List ℕ))) × (next : List (List ℕ)) × AreTaken text (plan ++ script ++ next ∷ []) × (length script ≡ script_limit) × IsThrough stop m depth script written
DoesUntil stop text plan m depth written (Err fault.Write) =
    (script : List (List (List ℕ))) × AreTaken text (plan ++ script) × (length script ≤ script_limit) × BeginsJobText m depth script written
DoesUntil stop text plan m depth written (Err fault.Memory) =
    (script : List (List (List ℕ))) × AreTaken text (plan ++ script) × (length script ≤ script_limit) × BeginsJobText m depth script written

-- the text was a plan of a valid map, of at most 600,002 records, and the rest was done as a script
abbrev pub DoesPlannedUntil : Bool → List ℕ → ℕ → List ℕ → Result (Option ℕ) JobFault → Type 0
DoesPlannedUntil stop text depth written result =
    (plan : List (List (List ℕ))) × (rows : Rows) × (m : Map) × (plan_of plan ≡ opened rows) × (length plan ≤ plan_limit + 2) × IsBuilt rows m
    × DoesUntil stop text plan m depth written result

-- The same of a whole job. Plan: nothing was written, and the plan has that fault. Length: the same of a record of the plan,
-- or as of a script. Read and Memory may also come before the script, and then nothing was written.
abbrev pub DoesJobUntil : Bool → List ℕ → ℕ → List ℕ → Result (Option ℕ) JobFault → Type 0
DoesJobUntil stop text depth written (Ok n) = DoesPlannedUntil stop text depth written (Ok n)
DoesJobUntil stop text depth written (Err (fault.Plan f)) =
    (written ≡ []) × (f ≢ plan_fault.Read) × (f ≢ plan_fault.Length) × (f ≢ plan_fault.Memory) × IsFaultyPlan text f
DoesJobUntil stop text depth written (Err fault.Length) =
    ((written ≡ []) × IsFaultyPlan text plan_fault.Length) ⊎ DoesPlannedUntil stop text depth written (Err fault.Length)
DoesJobUntil stop text depth written (Err fault.Long) = DoesPlannedUntil stop text depth written (Err fault.Long)
DoesJobUntil stop text depth written (Err fault.Write) = DoesPlannedUntil stop text depth written (Err fault.Write)
DoesJobUntil stop text depth written (Err fault.Read) = (written ≡ []) ⊎ DoesPlannedUntil stop text depth written (Err fault.Read)
DoesJobUntil stop text depth written (Err fault.Memory) = (written ≡ []) ⊎ DoesPlannedUntil stop text depth written (Err fault.Memory)
