use Rattle.std.proofs.Common.{◌≡◌, ℕ, ◌<◌, ◌≤◌, [], filter}
use Rattle.cell_grid.specs.Bounds.{is_near}
use Rattle.cell_grid.specs.Near.{searched_list, lists_from}
use Rattle.cell_grid.proofs.near.find_from.Given as goal

-- nothing near stands in the lists so far, so what is near from the first on is near from here on
abbrev pub invariant-loop-step : goal.invariant-loop-step
invariant-loop-step l =
    let of = lists_from l.layer.lists l.scope in
    ((k : ℕ) → l.from ≤ k → k < l.step → filter (is_near l.bounds) (searched_list l.layer.lists l.scope k) ≡ [])
    × (filter (is_near l.bounds) (of l.from) ≡ filter (is_near l.bounds) (of l.step))
