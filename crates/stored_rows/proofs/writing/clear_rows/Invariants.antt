use Rattle.std.proofs.Common.{◌≡◌, ◌-◌, List, take}
use Rattle.sqlite_value.specs.Order.{Row}
use Rattle.sqlite_trees.specs.View.{IsClean, IsQuiet, KeepsSchema}
use Rattle.stored_rows.specs.Tables.{placed_from, PutsRows}
use Rattle.stored_rows.proofs.writing.clear_rows.Given as goal

abbrev pub invariant-loop-gone : goal.invariant-loop-gone
invariant-loop-gone g l =
    let old = g.S.Store.view l.fn.store in
    let now = g.S.Store.view l.store in
    KeepsSchema old now
    × IsQuiet g.S.Store.view g.S.Store.faults g.S.Store.recovers g.S.Store.is_shielded l.fn.store l.store
    × (IsClean now → (rows : List Row) → old.trees l.tree ≡ placed_from 1 rows → PutsRows old l.tree (take (l.count - l.gone) rows) now)
