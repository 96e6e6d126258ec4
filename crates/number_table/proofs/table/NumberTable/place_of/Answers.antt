use Rattle.std.proofs.lemmas.Option.{IfSome_then}
use Rattle.number_table.proofs.CallerLemmas.{within}
use Rattle.number_table.proofs.Found.{read-at}
use Rattle.number_table.proofs.table.NumberTable.place_of.Goals as goal

pub returns-then-is_at-clause-value : goal.returns-then-is_at-clause-value
returns-then-is_at-clause-value g c =
    read-at c.args.self.now c.place_from_second-likely.result c.args.number (rw (← c.self.view_is) c.len-rows.ensures.unique) (c.is_at.ensures.0 c.if-is_at.true)

pub returns-clause-within : goal.returns-clause-within
returns-clause-within g c = IfSome_then c.find_place.result c.find_place.ensures.there (λ place there. within c.args.self.now place c.args.number there)

pub returns-clause-value : goal.returns-clause-value
returns-clause-value g c =
    IfSome_then c.find_place.result c.find_place.ensures.there
    (λ place there. read-at c.args.self.now place c.args.number (rw (← c.self.view_is) c.len-rows.ensures.unique) there)
