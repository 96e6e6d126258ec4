use Rattle.std.proofs.Common.{◌∙◌, sym}
use Rattle.cell_grid.proofs.Same.{same_at}
use Rattle.cell_grid.proofs.held_list.is_at.Goals as goal

pub returns-then-place-list-clause-yes : goal.returns-then-place-list-clause-yes
returns-then-place-list-clause-yes c told = (
  c.if-place-list.true,
  same_at c.args.list.now c.args.place c.args.entry.now c.index-list-place.result
      c.if-place-list.true c.index-list-place.is (sym c.is_same.ensures ∙ told),
)
