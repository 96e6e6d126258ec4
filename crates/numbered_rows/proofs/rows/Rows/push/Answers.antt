use Rattle.std.proofs.Common.{◌∙◌, ap}
use Rattle.entry_list.specs.Slots.{rows_of}
use Rattle.numbered_rows.specs.Rows.{row_with}
use Rattle.numbered_rows.proofs.Entries.{lookup-row}
use Rattle.numbered_rows.specs.Rows.{rows_in}
use Rattle.numbered_rows.proofs.rows.Rows.push.Goals as goal

pub push-requires : goal.push-requires
push-requires g c =
    let number = g.R.Numbered.number_of in
    let es = rows_of c.self.inside.list in
    record {
      absent = rw (c.from-number.ensures, c.number.ensures) (lookup-row number (number c.args.row) es c.self.invariant
          ∙ ap (λ slots. row_with number (number c.args.row) (rows_in slots)) c.self.view_is ∙ c.requires);
    }
