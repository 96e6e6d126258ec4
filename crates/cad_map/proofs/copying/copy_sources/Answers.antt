use Rattle.std.proofs.Common.{sym}
use Rattle.cad_rows.specs.declared.rows.SourceRow.{SourceRow}
use Rattle.cad_map.proofs.Lists.RowsInTurn.{row_with-earlier}
use Rattle.cad_map.proofs.copying.copy_sources.Goals as goal

pub put_source-requires : goal.put_source-requires
put_source-requires g c =
    rw (c.loop-place.invariant, c.in_ok-copy.ensures)
    (row_with-earlier (λ (r : SourceRow). r.number) (g.M.MapView.map c.args.view.now).sources c.loop-place.place _ c.requires.valid.sound.v1.sources.distinct (sym (rw c.unwrap-row.ensures at c.source_at.ensures)))
