-- What the program tells of a fault, and the status with which it ends.
use Rattle.std.specs.Prelude.{ℕ, List, ◌++◌, codes, decimal}
use Rattle.cad_files.specs.FaultTexts.{fault_text}
use Rattle.cad_job.specs.declared.faults.JobFault.{JobFault}
use Rattle.cad_job.specs.declared.faults.JobFault.TheVariants as fault

-- the line on standard error
abbrev pub job_fault_text : JobFault → List ℕ
job_fault_text (fault.Plan f) = codes "cadedit: plan fault " ++ fault_text f
job_fault_text fault.Read = codes "cadedit: read fault"
job_fault_text fault.Length = codes "cadedit: read fault"
job_fault_text fault.Write = codes "cadedit: write fault"
job_fault_text fault.Long = codes "cadedit: too many records"
job_fault_text fault.Memory = codes "cadedit: out of memory"

-- the status after a fault of the job
abbrev pub status_of : JobFault → ℕ
status_of (fault.Plan f) = 2
status_of fault.Read = 3
status_of fault.Length = 3
status_of fault.Write = 3
status_of fault.Long = 4
status_of fault.Memory = 5

-- the line on standard error where a script was to stop, and stopped after so many records
abbrev pub stopped_text : ℕ → List ℕ
stopped_text n = codes "cadedit: stopped after record " ++ (decimal n ++ codes " of the script")
