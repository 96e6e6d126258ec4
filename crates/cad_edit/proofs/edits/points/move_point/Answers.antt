use Rattle.std.proofs.Common.{sym}
use Rattle.cad_rows.specs.declared.rows.PointRow.{PointRow}
use Rattle.cad_map.proofs.CallerLemmas.{found-again}
use Rattle.cad_edit.proofs.edits.points.move_point.Goals as goal

pub set_point-requires : goal.set_point-requires
set_point-requires c = rw c.in_ok-row.ensures (found-again (λ (r : PointRow). r.number) c.args.no c.args.map.now.points c.in-Some.row.now (sym c.in-Some.ensures))
