-- What a text is as a plan.
use Rattle.std.specs.Prelude.{◌≡◌, ◌≢◌, ◌⊎◌, ℕ, List}
use Rattle.cad_files.specs.Input.{AreTaken}
use Rattle.cad_files.specs.Rows.{Rows}
use Rattle.cad_files.specs.Plan.{plan_of, opened, HasPlanFault}
use Rattle.cad_files.specs.Building.{IsBuildFault}
use Rattle.cad_files.specs.declared.faults.PlanFault.{PlanFault}
use Rattle.cad_files.specs.declared.faults.PlanFault.TheVariants as faults

-- the text begins with a plan of these rows
abbrev pub IsPlanOf : List ℕ → Rows → Type 0
IsPlanOf text rows =
    (plan : List (List (List ℕ))) × AreTaken text plan × (plan_of plan ≡ opened rows)

-- the text's plan has this fault, in its records or in the map of its rows, where neither the
-- reader nor memory failed
abbrev pub IsFaultOf : List ℕ → PlanFault → Type 0
IsFaultOf text fault =
    fault ≢ faults.Read → fault ≢ faults.Memory
    → HasPlanFault text fault ⊎ ((rows : Rows) × IsPlanOf text rows × IsBuildFault rows fault)
