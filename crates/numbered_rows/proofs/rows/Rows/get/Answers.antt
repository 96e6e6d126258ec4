use Rattle.std.proofs.Common.{◌≡◌, ◌∙◌, ap}
use Rattle.std.specs.Option.{option_copied}
use Rattle.numbered_rows.proofs.Entries.{lookup-row}
use Rattle.numbered_rows.specs.Rows.{row_with}
use Rattle.numbered_rows.specs.Rows.{rows_in}
use Rattle.entry_list.specs.Slots.{rows_of, row_at}
use Rattle.numbered_rows.proofs.rows.Rows.get.Goals as goal

pub returns : goal.returns
returns g c =
    let number = g.R.Numbered.number_of in
    let found : option_copied c.get.result ≡ row_at c.args.number c.self.inside.list = rw c.from.ensures at c.get.ensures in
    found ∙ lookup-row number c.args.number (rows_of c.self.inside.list) c.self.invariant
    ∙ ap (λ slots. row_with number c.args.number (rows_in slots)) c.self.view_is
