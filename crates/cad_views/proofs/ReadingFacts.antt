-- A text that is read as a plan.
use Rattle.std.proofs.Common.{◌≡◌, ℕ, List, Option}
use Rattle.csv.specs.declared.reader.Reader.{Reader}
use Rattle.cad_files.specs.Input.{HasRead}
use Rattle.cad_files.specs.Rows.{Rows}
use Rattle.cad_files.specs.Plan.{plan_of, opened}
use Rattle.cad_files.proofs.SevenFields.{taken-plan}
use Rattle.cad_views.specs.Reading.{IsPlanOf}

-- what was read up to `open` is a plan
pub plan_read : {R : Type 0} (rem : R → Option (List ℕ)) (text : List ℕ) (plan : List (List (List ℕ))) (reader : Reader R) (rows : Rows)
    → HasRead rem text plan reader → plan_of plan ≡ opened rows → IsPlanOf text rows
plan_read rem text plan reader rows read opens =
    (plan, taken-plan rem text plan reader (opened rows) opens (λ e. cc e) (λ e. cc e) read, opens)
