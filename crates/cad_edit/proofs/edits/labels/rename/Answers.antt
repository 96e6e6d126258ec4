use Rattle.std.proofs.Common.{sym}
use Rattle.cad_rows.specs.declared.rows.ParcelRow.{ParcelRow}
use Rattle.cad_map.proofs.CallerLemmas.{found-again}
use Rattle.cad_edit.proofs.edits.labels.rename.Goals as goal

pub set_parcel-requires : goal.set_parcel-requires
set_parcel-requires c = rw c.in_ok-row.ensures (found-again (λ (r : ParcelRow). r.number) c.args.no c.args.map.now.parcels c.in-Some.row.now (sym c.in-Some.ensures))
