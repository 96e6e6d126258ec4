use Rattle.std.proofs.Common.{◌≡◌, ◌∙◌, ℕ, List, map, ap}
use Rattle.std.specs.Prelude.{is_some}
use Rattle.numbered_rows.specs.Rows.{row_with, without_row}
use Rattle.cad_map.specs.declared.map_rows.RetiredRow.{RetiredRow}
use Rattle.cad_map.specs.MapRows.{map_in}
use Rattle.numbered_rows.specs.Rows.{rows_in}
use Rattle.numbered_rows.proofs.ByNumbers.{some-by_numbers}
use Rattle.map_parts.proofs.Retired.{retired-back}
use Rattle.map_parts.proofs.edits.retired.unretire.Goals as goal

pub take_there-requires : goal.take_there-requires
take_there-requires c =
    let old : List RetiredRow = rows_in c.args.rows.now.retired in
    ap (λ (n : ℕ). is_some (row_with (λ (r : RetiredRow). r.number) n old)) c.get.ensures.value
    ∙ some-by_numbers (λ (r : RetiredRow). r.number) c.args.row.number old ∙ c.requires.gone

pub returns-clause-rows : goal.returns-clause-rows
returns-clause-rows c = λ ks none are.
    let old : List RetiredRow = rows_in c.args.rows.now.retired in
    let left : map (λ (r : RetiredRow). r.number) (rows_in c.take_there.new.self) ≡ ks =
    ap (map (λ (r : RetiredRow). r.number))
    (c.take_there.ensures.rows ∙ ap (λ (n : ℕ). without_row (λ (r : RetiredRow). r.number) n old) c.get.ensures.value)
    ∙ retired-back old ks c.args.row.number are none in
    let back = c.put_at.ensures.rows in
    (λ i. record (map_in c.args.rows.now) { parcels = back i; retired = left i })
