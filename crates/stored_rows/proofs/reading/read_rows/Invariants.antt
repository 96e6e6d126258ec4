use Rattle.std.proofs.Common.{◌≡◌, ◌+◌, ◌++◌, List, Some, IsSome, length, map}
use Rattle.sqlite_value.specs.Order.{Row}
use Rattle.sqlite_trees.specs.View.{IsClean, IsQuiet}
use Rattle.stored_rows.specs.Tables.{OnlyReads}
use Rattle.stored_rows.specs.Tables.{placed_from}
use Rattle.stored_rows.proofs.reading.read_rows.Given as goal

abbrev pub invariant-rows : goal.invariant-rows
invariant-rows g l =
    let old = g.S.Store.view l.fn.store in
    let now = g.S.Store.view l.store in
    (l.n ≡ 1 + length l.items.items)
    × IsSome (now.cursors 0)
    × (IsClean now → OnlyReads old now)
    × IsQuiet g.S.Store.view g.S.Store.faults g.S.Store.recovers g.S.Store.is_shielded l.fn.store l.store
    × (IsClean now → (left : List Row) × (now.cursors 0 ≡ Some left) × (old.trees l.tree ≡ placed_from 1 (map (g.L.Layout.fields l.layout) l.items.items) ++ left))
