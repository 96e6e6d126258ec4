use Rattle.std.proofs.Common.{sym}
use Rattle.cad_rows.specs.declared.rows.StringRow.{StringRow}
use Rattle.cad_map.proofs.Lists.RowsInTurn.{row_with-earlier}
use Rattle.cad_map.proofs.copying.copy_strings.Goals as goal

pub put_string-requires : goal.put_string-requires
put_string-requires g c =
    rw (c.loop-place.invariant, c.in_ok-copy.ensures)
    (row_with-earlier (λ (r : StringRow). r.number) (g.M.MapView.map c.args.view.now).strings c.loop-place.place _ c.requires.valid.sound.v1.strings.distinct (sym (rw c.unwrap-row.ensures at c.string_at.ensures)))
