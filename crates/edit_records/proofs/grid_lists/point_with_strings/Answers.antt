use Rattle.std.proofs.Common.{ap, ◌∙◌, ◌++◌, ◌∷◌, [], List}
use Rattle.cell_grid.specs.declared.entry.Entry.{Entry}
use Rattle.cell_grid.specs.Grid.{entry_of}
use Rattle.edit_records.proofs.GridLists.{entries-of, join-gone_all, move-gone, move-come, move-there}
use Rattle.edit_records.proofs.grid_lists.point_with_strings.Goals as goal

pub returns-clause-goes : goal.returns-clause-goes
returns-clause-goes g c = λ b row to beside is there.
    let m = g.M.MapView.map c.args.map.now in
    let a = c.args in
    entries-of _ c.add_point.new.self _ c.add_point.ensures.strings
    (c.in_ok-add_point.ensures.added ∙ ap (λ (es : List Entry). es ++ entry_of a.point a.at a.at ∷ []) c.in_ok-entries.ensures.points)
    (move-gone m b a.point to.x to.y beside row is a.at there c.in_ok-entries.entries.strings c.in_ok-entries.ensures.strings)

pub returns-clause-comes : goal.returns-clause-comes
returns-clause-comes g c = λ b beside.
    let m = g.M.MapView.map c.args.map.now in
    let a = c.args in
    let found = move-there b a.point a.at.x a.at.y beside.tried in
    entries-of _ c.add_point.new.self _ c.add_point.ensures.strings
    (c.in_ok-add_point.ensures.added ∙ ap (λ (es : List Entry). es ++ entry_of a.point a.at a.at ∷ []) c.in_ok-entries.ensures.points)
    (move-come m b a.point a.at.x a.at.y beside found.0 found.1 c.in_ok-entries.entries.strings c.in_ok-entries.ensures.strings)

pub returns-clause-joins : goal.returns-clause-joins
returns-clause-joins g c = λ row new v is there.
    let m = g.M.MapView.map c.args.map.now in
    let a = c.args in
    entries-of _ c.add_point.new.self _ c.add_point.ensures.strings
    (c.in_ok-add_point.ensures.added ∙ ap (λ (es : List Entry). es ++ entry_of a.point a.at a.at ∷ []) c.in_ok-entries.ensures.points)
    (join-gone_all m a.point new a.at row v is there c.in_ok-entries.entries.strings c.in_ok-entries.ensures.strings)
