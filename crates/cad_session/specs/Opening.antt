-- A plan that no session begins with.
use Rattle.std.specs.Prelude.{◌≡◌, ◌⊎◌, ◌≤◌, ℕ, ◌+◌, List, length}
use Rattle.cad_files.specs.Input.{AreTaken}
use Rattle.cad_files.specs.Rows.{Rows, plan_limit}
use Rattle.cad_files.specs.Plan.{plan_of, opened, HasPlanFault}
use Rattle.cad_files.specs.Building.{IsBuildFault}
use Rattle.cad_files.specs.declared.faults.PlanFault.{PlanFault}

-- the text's plan has this fault: in its records, or in the map of its rows
abbrev pub IsFaultyPlan : List ℕ → PlanFault → Type 0
IsFaultyPlan text f =
    HasPlanFault text f ⊎ ((plan : List (List (List ℕ))) × (rows : Rows) × AreTaken text plan × (plan_of plan ≡ opened rows) × (length plan ≤ plan_limit + 2) × IsBuildFault rows f)
