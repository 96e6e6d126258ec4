use Rattle.std.proofs.Common.{◌∷◌, [], ◌++◌, List, ap, ◌∙◌}
use Rattle.cad_rows.specs.declared.rows.ParcelRow.{ParcelRow}
use Rattle.cad_map.specs.Map.{Map, parcel_of}
use Rattle.cad_map.specs.MapRows.{map_in}
use Rattle.map_parts.proofs.edits.added.put_added.Goals as goal

pub put_last-requires : goal.put_last-requires
put_last-requires c = record {
  slot = c.put_strings.ensures.keeps.parcels c.args.parcel.number c.requires.slot;
  absent = ap (λ (q : Map). parcel_of q c.args.parcel.number) c.put_strings.ensures.rows ∙ c.requires.absent;
}

pub returns-clause-rows : goal.returns-clause-rows
returns-clause-rows c =
    ap (λ (l : List ParcelRow). record (map_in c.put_strings.new.rows) { parcels = l }) c.put_last.ensures.rows
    ∙ ap (λ (q : Map). record q { parcels = q.parcels ++ c.args.parcel ∷ [] }) c.put_strings.ensures.rows
