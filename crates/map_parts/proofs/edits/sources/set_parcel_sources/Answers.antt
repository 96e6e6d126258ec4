use Rattle.std.proofs.Common.{◌∙◌, ap, sym, refl}
use Rattle.cad_map.specs.MapRows.{map_in}
use Rattle.map_parts.proofs.RowsUndone.{parcel-is}
use Rattle.map_parts.proofs.edits.sources.set_parcel_sources.Goals as goal

pub returns : goal.returns
returns c =
    ap (λ l. record (map_in c.args.rows.now) { parcels = l }) (c.put_at.ensures.rows ∙ c.take_there-place.ensures.back _ refl)
    ∙ sym (parcel-is (map_in c.args.rows.now) c.args.no (λ r. record r { sources = c.args.sources }) c.take_there-place.result.1 (rw c.get.ensures.value at c.take_there-place.ensures.found))
