use Rattle.std.proofs.Common.{◌≡◌, ℕ, ◌+◌, get_or, subst, arith, inl, inr}
use Rattle.std.proofs.lemmas.Bool.{cases_eq}
use Rattle.cell_grid.proofs.held_list.place_around.Goals as goal

pub loop-distance-preserved : goal.loop-distance-preserved
loop-distance-preserved c k within below above here =
    let e = c.args.entry.now in
    let d = c.loop-distance.distance in
    elim (cases_eq k (c.min-start.result + d)) [
      | inl is ↦ c.is_at.ensures.no c.if-is_at.false (omega arith)
          (subst (λ (n : ℕ). get_or c.args.list.now n e ≡ e) is here)
      | inr past ↦ elim (cases_eq k c.saturating_sub-before.result) [
        | inl is ↦ c.is_at-in-loop-distance.ensures.no c.if-is_at-2.false (omega arith)
            (subst (λ (n : ℕ). get_or c.args.list.now n e ≡ e) is here)
        | inr other ↦ c.loop-distance.invariant k within (omega arith) (omega arith) here
      ]
    ]

pub returns : goal.returns
returns c =
    let there = c.requires in
    absurd (c.loop-distance.invariant there.0 there.1 (omega (arith, there.1))
    (omega (arith, there.1)) there.2)
