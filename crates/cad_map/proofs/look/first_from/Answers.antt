use Rattle.std.proofs.Common.{rules, of_calls, nat_lt}
use Rattle.std.proofs.lemmas.List.Sorted.{IsPartitionPoint-from_clause, IsPartitionedBy-ltb}
use Rattle.cad_map.proofs.Boundaries.FaceRuns.{place_of, canonical_order-rises, first-from}
use Rattle.cad_map.proofs.look.first_from.Goals as goal

pub returns-then-begins_from-clause-first : goal.returns-then-begins_from-clause-first
returns-then-begins_from-clause-first c =
    let bs = c.args.boundaries.now in
    first-from bs (canonical_order-rises bs c.requires) c.args.bound c.args.guessed c.if-guessed-boundaries.true
    c.if-ends_below.ensures c.if-begins_from.ensures

pub returns-clause-first : goal.returns-clause-first
returns-clause-first c =
    let bs = c.args.boundaries.now in
    IsPartitionPoint-from_clause (λ b. nat_lt (place_of b) c.args.bound) bs c.partition_point.result
    c.partition_point.ensures.partitioned (IsPartitionedBy-ltb place_of bs c.args.bound (canonical_order-rises bs c.requires))
    (λ a r f called. search (rules, of_calls))
