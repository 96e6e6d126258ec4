use Rattle.std.proofs.Common.{ap, ◌∙◌, ◌++◌, ◌∷◌, []}
use Rattle.cell_grid.specs.Grid.{entry_of}
use Rattle.cell_grid.specs.Together.{Listed}
use Rattle.edit_records.proofs.GridLists.{entries-of, dropped-point}
use Rattle.edit_records.proofs.grid_lists.lone_point.Goals as goal

pub returns-clause-goes : goal.returns-clause-goes
returns-clause-goes c = λ b row v is there.
    let at = c.args.at in
    entries-of _ c.add_point.new.self _
    (c.add_point.ensures.strings ∙ ap (λ (l : Listed). l.strings) c.new-entries.ensures)
    (c.in_ok-add_point.ensures.added ∙ ap (λ (l : Listed). l.points ++ entry_of c.args.point at at ∷ []) c.new-entries.ensures)
    (dropped-point b c.args.point at row v is there)
