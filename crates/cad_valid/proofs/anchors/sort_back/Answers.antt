use Rattle.std.proofs.Common.{rules, of_calls}
use Rattle.std.proofs.lemmas.List.Sorted.{IsNonDecreasingBy-from_sort_by_key}
use Rattle.cad_valid.specs.declared.anchors.Anchor.{Anchor}
use Rattle.cad_valid.proofs.anchors.sort_back.Goals as goal

pub returns-clause-rise : goal.returns-clause-rise
returns-clause-rise c =
    IsNonDecreasingBy-from_sort_by_key (λ (a : Anchor). a.place) c.sort_unstable_by_key.new.self
    c.sort_unstable_by_key.ensures.sorted (λ a r f called. search (rules, of_calls))
