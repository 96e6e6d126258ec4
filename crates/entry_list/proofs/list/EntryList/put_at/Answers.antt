use Rattle.entry_list.specs.Slots.{rows_of}
use Rattle.entry_list.proofs.Numbers.{without-inserted}
use Rattle.entry_list.proofs.list.EntryList.put_at.Goals as goal

pub returns-clause-back : goal.returns-clause-back
returns-clause-back g c =
    let rows = rows_of c.args.self.now in
    let m = c.make_room-slot.ensures in
    rw (c.fill.ensures.rows, m.before, m.rows)
    (without-inserted c.args.number c.args.place rows c.args.row c.requires.absent)
