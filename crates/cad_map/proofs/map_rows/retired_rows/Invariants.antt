use Rattle.std.proofs.Common.{◌≡◌, take, map}
use Rattle.cad_map.specs.declared.map_rows.RetiredRow.{RetiredRow}
use Rattle.numbered_rows.specs.Rows.{rows_in}
use Rattle.cad_map.proofs.map_rows.retired_rows.Given as goal

abbrev pub invariant-loop-place : goal.invariant-loop-place
invariant-loop-place l = map (λ (r : RetiredRow). r.number) (rows_in l.rows) ≡ take l.place l.retired
