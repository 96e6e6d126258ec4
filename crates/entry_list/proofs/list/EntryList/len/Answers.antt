use Rattle.entry_list.proofs.Numbers.{rows-distinct}
use Rattle.entry_list.proofs.list.EntryList.len.Goals as goal

pub returns-clause-distinct : goal.returns-clause-distinct
returns-clause-distinct g c =
    rw (← c.self.view_is) (rows-distinct c.self.inside.slots c.len-slots.ensures.distinct)
