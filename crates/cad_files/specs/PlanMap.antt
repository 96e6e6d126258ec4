-- What a list of records comes to as a plan: a map, or a fault.
use Rattle.std.specs.Prelude.{◌≡◌, ℕ, true, List}
use Rattle.cad_map.specs.Map.{Map}
use Rattle.cad_files.specs.Building.{IsBuilt, IsBuildFault}
use Rattle.cad_files.specs.Plan.{plan_of, opened, faulty, is_unfinished}
use Rattle.cad_files.specs.Rows.{Rows}
use Rattle.cad_files.specs.declared.faults.PlanFault.{PlanFault}
use Rattle.cad_files.specs.declared.faults.PlanFault.TheVariants as faults

-- the records give rows, and the rows the map
pub record IsPlanOf (records : List (List (List ℕ))) (m : Map) : Type 0 where
  pub rows : Rows
  pub opens : plan_of records ≡ opened rows
  pub built : IsBuilt rows m

-- a record is at fault, none of them is `open`, or their rows are at fault
pub data IsFaultOf (records : List (List (List ℕ))) : PlanFault → Type 0 where
  of_record : {fault : PlanFault} → plan_of records ≡ faulty fault → IsFaultOf records fault
  of_end : is_unfinished (plan_of records) ≡ true → IsFaultOf records faults.NoOpen
  of_rows : {rows : Rows} {fault : PlanFault} → plan_of records ≡ opened rows
      → IsBuildFault rows fault → IsFaultOf records fault
