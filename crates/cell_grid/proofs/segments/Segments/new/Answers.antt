use Rattle.std.proofs.Common.{◌≤◌, List, sym, subst, arith}
use Rattle.std.specs.Prelude.{count_by}
use Rattle.cell_grid.specs.declared.entry.Entry.{Entry}
use Rattle.cell_grid.specs.declared.segments.Level.TheVariants.{Long}
use Rattle.cell_grid.specs.Entries.{is_same_entry}
use Rattle.cell_grid.specs.Kept.{HoldsNone}
use Rattle.cell_grid.proofs.Levels.{held-none}
use Rattle.cell_grid.proofs.segments.Segments.new.Goals as goal

none : (c : goal.After-new-5) → HoldsNone (record {
  small_squares = c.new.result.lists;
  squares = c.new-2.result.lists;
  lanes_east = c.new-3.result.lists;
  lanes_north = c.new-4.result.lists;
  long = c.new-5.result.entries.items;
})
none c = held-none _ c.new.ensures.empty c.new-2.ensures.empty c.new-3.ensures.empty
    c.new-4.ensures.empty c.new-5.ensures

pub returns-clause-spread : goal.returns-clause-spread
returns-clause-spread c = record {
  small_squares = c.new.ensures.spread;
  squares = c.new-2.ensures.spread;
  lanes_east = c.new-3.ensures.spread;
  lanes_north = c.new-4.ensures.spread;
  long_once = λ e. subst (λ (l : List Entry). count_by (is_same_entry e) l ≤ 1) (sym c.new-5.ensures)
      (omega arith);
  long_sound = λ e h. absurd (none c e (Long, h));
  at_level = λ level e h. absurd (none c e (level, h));
}

pub returns-clause-empty : goal.returns-clause-empty
returns-clause-empty c = none c
