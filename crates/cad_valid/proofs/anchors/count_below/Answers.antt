use Rattle.std.proofs.Common.{rules, of_calls, nat_lt, get_or}
use Rattle.std.proofs.lemmas.Bool.{ltb-true, ltb-false}
use Rattle.std.proofs.lemmas.List.Sorted.{IsPartitionPoint-from_clause, IsPartitionedBy-ltb}
use Rattle.cad_valid.specs.Anchors.{height_of}
use Rattle.cad_valid.proofs.anchors.count_below.Goals as goal

pub returns-clause-below : goal.returns-clause-below
returns-clause-below c =
    let anchors = c.args.anchors.now in
    let bound = c.args.bound in
    let point = IsPartitionPoint-from_clause (λ a. nat_lt (height_of a) bound) anchors c.partition_point.result
    c.partition_point.ensures.partitioned (IsPartitionedBy-ltb height_of anchors bound c.requires)
    (λ a r f called. search (rules, of_calls)) in (
      λ k d first below. ltb-true (height_of (get_or anchors k d)) bound (point.0 k d first below),
      λ k d from last. ltb-false (height_of (get_or anchors k d)) bound (point.1 k d from last),
    )
