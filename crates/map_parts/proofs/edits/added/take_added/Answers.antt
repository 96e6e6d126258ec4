use Rattle.std.proofs.Common.{ℕ, List, sym, ap, subst, ◌∙◌}
use Rattle.std.specs.Prelude.{IsSome}
use Rattle.cad_rows.specs.declared.rows.ParcelRow.{ParcelRow}
use Rattle.cad_map.specs.Map.{Map, parcel_of}
use Rattle.numbered_rows.specs.Rows.{without_row}
use Rattle.cad_map.specs.MapRows.{map_in}
use Rattle.numbered_rows.specs.Rows.{rows_in}
use Rattle.map_parts.proofs.edits.added.take_added.Goals as goal

pub take_there-requires : goal.take_there-requires
take_there-requires c =
    subst (λ (v : ℕ × Map). IsSome (parcel_of v.1 v.0)) (λ i. (sym c.get.ensures.value i, sym c.take_strings.ensures.rows i)) c.requires.parcel

pub returns-clause-rows : goal.returns-clause-rows
returns-clause-rows c =
    ap (λ (l : List ParcelRow). record (map_in c.take_strings.new.rows) { parcels = l })
    (c.take_there.ensures.rows ∙ ap (λ (n : ℕ). without_row (λ (r : ParcelRow). r.number) n (rows_in c.take_strings.new.rows.parcels)) c.get.ensures.value)
    ∙ ap (λ (q : Map). record q { parcels = without_row (λ (r : ParcelRow). r.number) c.args.parcel q.parcels }) c.take_strings.ensures.rows
