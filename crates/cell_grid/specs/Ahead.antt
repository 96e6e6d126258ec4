-- How the search for entries near a segment stands.
use Rattle.std.specs.Prelude.{◌≡◌, ◌≤◌, List, ◌++◌, filter}
use Rattle.cell_grid.specs.declared.entry.Entry.{Entry}
use Rattle.cell_grid.specs.declared.near.NearInLayer.TheInside.{Inside}
use Rattle.cell_grid.specs.Cells.{IsBlock}
use Rattle.cell_grid.specs.Bounds.{is_near}
use Rattle.cell_grid.specs.Near.{lists_from, searched_count}

-- the entries of a layer that are still to be given
abbrev pub entries_ahead : Inside → List Entry
entries_ahead w =
    filter (is_near w.bounds) (w.list.now ++ lists_from w.layer.now.lists w.scope w.next)

-- the search stands at one of its lists, or past the last
pub record IsUnderWay (w : Inside) : Type 0 where
  pub block : IsBlock w.scope.block
  pub within : w.next ≤ w.end
  pub end : w.end ≡ searched_count w.layer.now.lists w.scope
