-- What the program tells of a fault, and the status with which it ends.
use Rattle.std.specs.Prelude.{ℕ, List, ◌++◌, codes}
use Rattle.cad_files.specs.FaultTexts.{fault_text}
use Rattle.cadview.specs.declared.faults.ViewFault.{ViewFault}
use Rattle.cadview.specs.declared.faults.ViewFault.TheVariants as fault

-- the line on standard error
abbrev pub view_fault_text : ViewFault → List ℕ
view_fault_text (fault.Plan f) = codes "cadview: plan fault " ++ fault_text f
view_fault_text fault.Read = codes "cadview: read fault"
view_fault_text fault.Write = codes "cadview: write fault"
view_fault_text fault.Memory = codes "cadview: out of memory"

-- the status after a fault
abbrev pub status_of : ViewFault → ℕ
status_of (fault.Plan f) = 2
status_of fault.Read = 3
status_of fault.Write = 3
status_of fault.Memory = 5
