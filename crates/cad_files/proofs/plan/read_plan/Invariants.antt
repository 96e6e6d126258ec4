use Rattle.std.proofs.Common.{◌≡◌, ◌+◌, ◌-◌, ◌≤◌, [], ℕ, List}
use Rattle.cad_files.specs.Input.{HasRead}
use Rattle.cad_files.specs.Rows.{row_count, plan_limit}
use Rattle.cad_files.specs.Plan.{reading, plan_of}
use Rattle.cad_files.proofs.plan.read_plan.Given as goal

abbrev pub invariant-loop-rows : goal.invariant-loop-rows
invariant-loop-rows g l = record {
  read : (text : List ℕ) → HasRead g.R.Read.remaining text [] l.fn.reader
      → (rows : List (List (List ℕ))) × HasRead g.R.Read.remaining text rows l.reader × (plan_of rows ≡ reading l.version l.count l.rows);
  counted : l.count ≡ row_count l.rows + 1;
  few : row_count l.rows ≤ plan_limit;
}

abbrev pub decreases-loop-rows : goal.decreases-loop-rows
decreases-loop-rows g l = plan_limit - row_count l.rows
