use Rattle.std.proofs.Common.{◌∙◌, sym, ap, length}
use Rattle.std.proofs.lemmas.Map.Entries.{length-values_of}
use Rattle.numbered_rows.specs.Rows.{rows_in}
use Rattle.entry_list.specs.Slots.{rows_of}
use Rattle.numbered_rows.proofs.rows.Rows.len.Goals as goal

pub returns : goal.returns
returns g c = c.len.ensures.len ∙ sym (length-values_of (rows_of c.self.inside.list)) ∙ ap (λ slots. length (rows_in slots)) c.self.view_is
