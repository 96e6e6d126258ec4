-- The status with which the program ends, by the words of its command line.
use Rattle.std.specs.Prelude.{◌≡◌, ◌⊎◌, ℕ, Bool, true, List, Option}
use Rattle.clap.specs.Words.{Text}
use Rattle.clap.specs.declared.error.kind.ErrorKind.{ErrorKind}
use Rattle.command_line.specs.Statuses.{status_of_kind}
use Rattle.cad_job.specs.Arguments.{IsRefused, ReadsArgs}
use Rattle.cad_job.specs.Told.{status_of}
use Rattle.cad_job.specs.declared.faults.JobFault.{JobFault}

-- the status after a job: 0 where it was done, 1 where it was to stop and stopped, else that of a fault
abbrev pub IsStatusOfJob : Bool → ℕ → Type 0
IsStatusOfJob stop status = (status ≡ 0) ⊎ (((stop ≡ true) × (status ≡ 1)) ⊎ ((fault : JobFault) × (status ≡ status_of fault)))

-- the status after these words: that of the job that they name, or of their refusal
abbrev pub IsStatusOfWords : List Text → ℕ → Type 0
IsStatusOfWords words status =
    ((depth : ℕ) × (stop : Bool) × (file : Option Text) × ReadsArgs words depth stop file × IsStatusOfJob stop status)
    ⊎ ((kind : ErrorKind) × IsRefused words kind × (status ≡ status_of_kind kind))
