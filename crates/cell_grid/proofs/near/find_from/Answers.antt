use Rattle.std.proofs.Common.{◌≡◌, ℕ, ◌∙◌, ◌<◌, ◌≤◌, [], ◌++◌, List, ap, subst, filter, ◌+◌, ◌-◌, arith, inl, inr, Bool}
use Rattle.std.proofs.lemmas.Bool.{cases_eq}
use Rattle.std.proofs.lemmas.List.Elements.{filter-append}
use Rattle.cell_grid.specs.Held.{HeldEntries}
use Rattle.cell_grid.specs.declared.bounds.Bounds.{Bounds}
use Rattle.cell_grid.specs.declared.near.Scope.{Scope}
use Rattle.cell_grid.specs.declared.entry.Entry.{Entry}
use Rattle.cell_grid.specs.Bounds.{is_near}
use Rattle.cell_grid.specs.Near.{searched_list, searched_count, lists_from}
use Rattle.cell_grid.proofs.Nearness.{joined-first}
use Rattle.cell_grid.proofs.near.find_from.Goals as goal

-- what is near in the lists from one on, in it and in those after it
from-step : (lists : HeldEntries) (w : Bounds) (s : Scope) (step : ℕ)
    → step < searched_count lists s
    → filter (is_near w) (lists_from lists s step)
    ≡ filter (is_near w) (searched_list lists s step) ++ filter (is_near w) (lists_from lists s (step + 1))
from-step lists w s step low =
    ap (filter (is_near w)) (joined-first (searched_list lists s) step (searched_count lists s) low)
    ∙ filter-append (is_near w) (searched_list lists s step) (lists_from lists s (step + 1))

-- nothing near stands in the lists so far, nor in the next one
none-more : (list : ℕ → List Entry) (near : Entry → Bool) {from : ℕ} (step : ℕ)
    → ((k : ℕ) → from ≤ k → k < step → filter near (list k) ≡ []) → filter near (list step) ≡ []
    → (k : ℕ) → from ≤ k → k < step + 1 → filter near (list k) ≡ []
none-more list near step before here k low high = elim (cases_eq k step) [
  | inl same ↦ ap (λ (n : ℕ). filter near (list n)) same ∙ here
  | inr other ↦ before k low (omega (arith, high, other))
]

pub returns-in-Some-clause-some : goal.returns-in-Some-clause-some
returns-in-Some-clause-some c =
    let lists = c.args.layer.now.lists in
    let w = c.args.bounds.now in
    let s = c.args.scope.now in
    let lt = subst (λ n. c.loop-step.step < n) c.requires.end c.loop-step-test.true in
    c.loop-step.invariant.1 ∙ from-step lists w s c.loop-step.step lt
    ∙ ap (λ (l : List Entry). l ++ filter (is_near w) (lists_from lists s (c.loop-step.step + 1)))
    (rw c.searched_list.ensures at c.in-Some.ensures.some)

pub loop-step-preserved : goal.loop-step-preserved
loop-step-preserved c =
    let lists = c.args.layer.now.lists in
    let w = c.args.bounds.now in
    let s = c.args.scope.now in
    let none : filter (is_near w) (searched_list lists s c.loop-step.step) ≡ [] =
    rw c.searched_list.ensures at c.in_default.ensures.none in (
      none-more (searched_list lists s) (is_near w) c.loop-step.step c.loop-step.invariant.0 none,
      c.loop-step.invariant.1
          ∙ from-step lists w s c.loop-step.step (subst (λ n. c.loop-step.step < n) c.requires.end c.loop-step-test.true)
          ∙ ap (λ (l : List Entry). l ++ filter (is_near w) (lists_from lists s (c.loop-step.step + 1))) none,
    )

pub returns-in-Some-clause-stands : goal.returns-in-Some-clause-stands
returns-in-Some-clause-stands c =
    let lists = c.args.layer.now.lists in
    let w = c.args.bounds.now in
    let s = c.args.scope.now in
    let step = c.loop-step.step in
    let at : (step + 1) - 1 ≡ step = omega arith in
    record {
      past = omega (arith, c.loop-step.auto.step);
      stands = rw at (rw c.searched_list.ensures at c.in-Some.ensures.stands);
      none_before = rw at c.loop-step.invariant.0;
    }
