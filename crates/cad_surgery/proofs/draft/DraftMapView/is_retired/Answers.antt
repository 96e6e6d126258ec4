use Rattle.std.proofs.Common.{◌≡◌, ◌∙◌}
use Rattle.std.specs.Prelude.{is_some}
use Rattle.numbered_rows.specs.Rows.{row_with}
use Rattle.cad_map.specs.declared.map_rows.RetiredRow.{RetiredRow}
use Rattle.numbered_rows.specs.Rows.{rows_in}
use Rattle.numbered_rows.proofs.ByNumbers.{some-by_numbers}
use Rattle.cad_surgery.proofs.draft.DraftMapView.is_retired.Goals as goal

pub returns : goal.returns
returns g c =
    let rows = rows_in c.self.inside.rows.retired in
    let has : c.has.result ≡ is_some (row_with (λ (r : RetiredRow). r.number) c.args.no rows) = rw c.get.ensures.value at c.has.ensures in
    rw (← c.self.view_is) (has ∙ some-by_numbers (λ (r : RetiredRow). r.number) c.args.no rows)
