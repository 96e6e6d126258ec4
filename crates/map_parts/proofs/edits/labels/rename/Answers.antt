use Rattle.std.proofs.Common.{rules, ◌∙◌, ap, sym, refl}
use Rattle.std.specs.Prelude.{option_map}
use Rattle.cad_map.specs.Changes.{change_parcel}
use Rattle.cad_map.specs.MapRows.{map_in}
use Rattle.map_parts.proofs.RowsUndone.{parcel-is}
use Rattle.map_parts.proofs.edits.labels.rename.Goals as goal

pub returns-clause-from : goal.returns-clause-from
returns-clause-from c = ap (option_map (λ r. r.label)) (rw c.get.ensures.value at c.take_there-place.ensures.found) ∙ search rules

pub returns-clause-rows : goal.returns-clause-rows
returns-clause-rows c =
    let m = map_in c.args.rows.now in
    let taken = c.take_there-place in
    ap (λ l. record m { parcels = l }) (c.put_at.ensures.rows ∙ taken.ensures.back _ refl)
    ∙ sym (parcel-is m c.args.parcel (λ r. record r { label = c.replace-from.new.dest }) taken.result.1 (rw c.get.ensures.value at taken.ensures.found))
    ∙ ap (λ l. change_parcel c.args.parcel (λ r. record r { label = l }) m) c.replace-from.ensures.after
