use Rattle.std.proofs.Common.{sym}
use Rattle.cad_rows.specs.declared.rows.PointRow.{PointRow}
use Rattle.cad_map.proofs.Lists.RowsInTurn.{row_with-earlier}
use Rattle.cad_map.proofs.copying.copy_points.Goals as goal

pub put_point-requires : goal.put_point-requires
put_point-requires g c =
    rw (c.loop-place.invariant, c.in_ok-copy.ensures)
    (row_with-earlier (λ (r : PointRow). r.number) (g.M.MapView.map c.args.view.now).points c.loop-place.place _ c.requires.valid.sound.v1.points.distinct (sym (rw c.unwrap-row.ensures at c.point_at.ensures)))
