use Rattle.std.proofs.Common.{rules, ◌≤◌, subst, List, length}
use Rattle.std.specs.Prelude.{IsPermutation}
use Rattle.std.proofs.lemmas.List.Sorted.{answers_always}
use Rattle.cad_map.specs.declared.boundary.Boundary.{Boundary}
use Rattle.cad_map.proofs.Lists.EachElement.{All-permuted}
use Rattle.cad_map.proofs.Boundaries.CanonicalOrder.{is_less, IsStrictWeakOrder-is_less, canonical_order-from_sort}
use Rattle.cad_map.proofs.canonical.make_canonical.Goals as goal

pub returns-clause-canonical_order : goal.returns-clause-canonical_order
returns-clause-canonical_order c =
    canonical_order-from_sort c.args.boundaries.now c.sort_unstable_by.new.self
    (subst (λ (l : List Boundary). IsPermutation l c.sort_unstable_by.new.self) c.make_each_canonical.ensures.canonical_form c.sort_unstable_by.ensures.permutation)
    (c.sort_unstable_by.ensures.sorted is_less IsStrictWeakOrder-is_less (answers_always _ _ _ (λ f a r next called. search rules)))

pub returns-clause-two : goal.returns-clause-two
returns-clause-two c = All-permuted (λ (b : Boundary). 2 ≤ length b.ring) c.make_each_canonical.new.boundaries c.sort_unstable_by.new.self c.sort_unstable_by.ensures.permutation c.make_each_canonical.ensures.two
