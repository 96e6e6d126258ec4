use Rattle.std.proofs.Common.{rules, ap, sym, inl, inr}
use Rattle.std.proofs.lemmas.Bool.{OnTrue_at, OnTrue_from, OnFalse_at, OnFalse_from}
use Rattle.std.proofs.lemmas.List.Sorted.{IsNonDecreasingBy-from_sort_by_key, Contains-permutation, IsPermutation-sym}
use Rattle.sweep.specs.declared.span.Span.{Span}
use Rattle.sweep.specs.Spans.{PassIfMet}
use Rattle.sweep.proofs.Rising.{rising-from}
use Rattle.sweep.proofs.Pairs.{either}
use Rattle.sweep.proofs.scan.all_that_meet_pass.Goals as goal

pub passes_each-requires : goal.passes_each-requires
passes_each-requires g c = rising-from c.sort_unstable_by_key.new.self (IsNonDecreasingBy-from_sort_by_key (λ s. s.low) c.sort_unstable_by_key.new.self c.sort_unstable_by_key.ensures.sorted (λ a r next called. search rules))

pub returns-clause-passed : goal.returns-clause-passed
returns-clause-passed g c =
    let test = g.T.PairTest.passes c.args.test.now in
    let sorted = c.sort_unstable_by_key.new.self in
    OnTrue_from c.passes_each.result _ (λ is a b has_a has_b apart a_first b_first.
    elim (either (PassIfMet test) sorted (OnTrue_at is c.passes_each.ensures.passed) a b (λ e. apart (ap (λ (s : Span). s.place) e))
    (Contains-permutation c.args.spans.now sorted a c.sort_unstable_by_key.ensures.permutation has_a)
    (Contains-permutation c.args.spans.now sorted b c.sort_unstable_by_key.ensures.permutation has_b)) [
      | inl p ↦ inl (p apart b_first)
      | inr p ↦ inr (p (λ e. apart (sym e)) a_first)
    ])

pub returns-clause-failed : goal.returns-clause-failed
returns-clause-failed g c =
    let sorted = c.sort_unstable_by_key.new.self in
    let back = IsPermutation-sym c.args.spans.now sorted c.sort_unstable_by_key.ensures.permutation in
    OnFalse_from c.passes_each.result _ (λ is.
    let f = OnFalse_at is c.passes_each.ensures.failed in
    record {
      first = f.first;
      second = f.second;
      first_in = Contains-permutation sorted c.args.spans.now f.first back f.first_in;
      second_in = Contains-permutation sorted c.args.spans.now f.second back f.second_in;
      apart = f.apart;
      fails = f.fails;
    })
