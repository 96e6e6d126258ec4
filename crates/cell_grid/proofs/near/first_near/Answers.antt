use Rattle.std.proofs.Common.{◌∙◌, ◌+◌, ◌-◌, length, drop, sym, arith, length-drop}
use Rattle.std.proofs.lemmas.List.{take_all}
use Rattle.cell_grid.proofs.Nearness.{first-near_at, first-near_kept}
use Rattle.cell_grid.proofs.near.first_near.Goals as goal

pub returns-then-is_near-clause-stands : goal.returns-then-is_near-clause-stands
returns-then-is_near-clause-stands c =
    let xs = c.args.list.now in
    let k = c.loop-place.place in
    let rest = drop (k + 1) xs in
    first-near_at c.args.bounds.now xs k c.index-list-place.result c.loop-place-test.true
    c.index-list-place.is
    (take_all (length xs - (k + 1)) rest (omega (arith, length-drop (k + 1) xs)))
    c.loop-place.invariant (sym c.is_near.ensures ∙ c.if-is_near.true)

pub returns-then-is_near-clause-some : goal.returns-then-is_near-clause-some
returns-then-is_near-clause-some c = first-near_kept (returns-then-is_near-clause-stands c)
