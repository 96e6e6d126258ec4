-- The texts of a plan's faults.
use Rattle.std.specs.Prelude.{ℕ, List, ◌++◌, codes, decimal}
use Rattle.cad_rows.specs.declared.names.Name.{Name}
use Rattle.cad_rows.specs.declared.names.Name.TheVariants as name
use Rattle.cad_files.specs.Answers.{rule_name}
use Rattle.cad_files.specs.declared.faults.PlanFault.{PlanFault}
use Rattle.cad_files.specs.declared.faults.PlanFault.TheVariants as faults

-- what a fault says of a row
abbrev pub about : List ℕ → Name → List ℕ
about said (name.Point n) = said ++ codes " point " ++ decimal n
about said (name.String n) = said ++ codes " string " ++ decimal n
about said (name.Parcel n) = said ++ codes " parcel " ++ decimal n
about said (name.Source n) = said ++ codes " source " ++ decimal n

-- the number of the fault, its name, and what it is about
abbrev pub fault_text : PlanFault → List ℕ
fault_text faults.Read = codes "1 read"
fault_text faults.Length = codes "1 read"
fault_text faults.Version = codes "2 version"
fault_text (faults.Syntax n) = codes "3 syntax record " ++ decimal n
fault_text (faults.Range n) = codes "4 range record " ++ decimal n
fault_text (faults.Taken n) = about (codes "5 taken") n
fault_text (faults.Unknown n) = about (codes "6 unknown") n
fault_text faults.Full = codes "7 full"
fault_text (faults.Dangling n) = codes "8 dangling string " ++ decimal n
fault_text (faults.Corner n) = codes "9 corner point " ++ decimal n
fault_text (faults.Labels n) = codes "10 labels string " ++ decimal n
fault_text (faults.Breaks rule) = codes "11 breaks " ++ rule_name rule
fault_text faults.NoOpen = codes "12 no-open"
fault_text faults.Memory = codes "13 memory"
