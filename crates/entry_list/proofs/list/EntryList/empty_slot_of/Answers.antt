use Rattle.entry_list.proofs.Found.{empty-placed}
use Rattle.entry_list.proofs.list.EntryList.empty_slot_of.Goals as goal

pub returns-clause-empty : goal.returns-clause-empty
returns-clause-empty g c =
    let p = rw c.unwrap.ensures at c.place_of.ensures.there in
    let v = rw c.unwrap.ensures at c.place_of.ensures.value in
    rw (← c.self.view_is)
    (empty-placed c.args.number c.unwrap.result c.self.inside.slots p v
    (rw c.self.view_is c.requires.slot) (rw c.self.view_is c.requires.absent))
