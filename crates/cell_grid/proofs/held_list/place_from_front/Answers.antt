use Rattle.std.proofs.Common.{◌≡◌, ◌∙◌, ℕ, get_or, sym, subst, arith, inl, inr}
use Rattle.std.proofs.lemmas.Bool.{cases_eq}
use Rattle.cell_grid.proofs.Same.{same_at, other_at}
use Rattle.cell_grid.proofs.held_list.place_from_front.Goals as goal

pub returns-then-is_same-clause-value : goal.returns-then-is_same-clause-value
returns-then-is_same-clause-value c =
    same_at c.args.list.now c.loop-place.place c.args.entry.now c.index-list-place.result
    c.loop-place-test.true c.index-list-place.is (sym c.is_same.ensures ∙ c.if-is_same.true)

pub loop-place-preserved : goal.loop-place-preserved
loop-place-preserved c k within below here =
    let e = c.args.entry.now in
    elim (cases_eq k c.loop-place.place) [
      | inl is ↦ other_at c.args.list.now c.loop-place.place e c.index-list-place.result
          c.loop-place-test.true c.index-list-place.is (sym c.is_same.ensures ∙ c.if-is_same.false)
          (subst (λ (n : ℕ). get_or c.args.list.now n e ≡ e) is here)
      | inr other ↦ c.loop-place.invariant k within (omega arith) here
    ]

pub returns : goal.returns
returns c =
    let there = c.requires in
    absurd (c.loop-place.invariant there.0 there.1 (omega (arith, there.1)) there.2)
