use Rattle.std.proofs.Common.{◌∙◌, ap, length}
use Rattle.entry_list.specs.Slots.{rows_of}
use Rattle.entry_list.proofs.Lists.{insert-last}
use Rattle.entry_list.proofs.list.EntryList.put_last.Goals as goal

pub returns-clause-rows : goal.returns-clause-rows
returns-clause-rows g c =
    let e = c.self.invariant.0.1 ∙ ap (λ s. length (rows_of s)) c.self.view_is in
    rw (c.put_at.ensures.rows, e)
    (insert-last (rows_of c.args.self.now) (c.args.number, c.args.row))
