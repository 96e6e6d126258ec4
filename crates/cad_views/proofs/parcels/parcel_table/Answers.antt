use Rattle.std.proofs.Common.{refl, [], ◌∷◌}
use Rattle.cad_views.specs.Tables.{parcel_header}
use Rattle.cad_views.proofs.parcels.parcel_table.Goals as goal

pub returns : goal.returns
returns c =
    let first = c.in_ok-write_record.ensures [] c.writer-out.ensures in
    let all = c.in_ok-write_parcels.ensures in
    (parcel_header ∷ all.0, (refl, all.1), c.in_ok-text.ensures _ (all.2 _ first))
