use Rattle.std.proofs.Common.{sym}
use Rattle.cad_rows.specs.declared.rows.ParcelRow.{ParcelRow}
use Rattle.cad_map.proofs.Lists.RowsInTurn.{row_with-earlier}
use Rattle.cad_map.proofs.copying.copy_parcels.Goals as goal

pub put_parcel-requires : goal.put_parcel-requires
put_parcel-requires g c =
    rw (c.loop-place.invariant, c.in_ok-copy.ensures)
    (row_with-earlier (λ (r : ParcelRow). r.number) (g.M.MapView.map c.args.view.now).parcels c.loop-place.place _ c.requires.valid.sound.v1.parcels.distinct (sym (rw c.unwrap-row.ensures at c.parcel_at.ensures)))
