use Rattle.std.proofs.Common.{◌≡◌, ap, refl, ◌∙◌, ◌++◌, ◌∷◌, [], List}
use Rattle.cell_grid.specs.declared.entry.Entry.{Entry}
use Rattle.cell_grid.specs.Grid.{entry_of}
use Rattle.cell_grid.specs.Together.{Listed}
use Rattle.edit_records.specs.GridLists.{span_entry}
use Rattle.edit_records.proofs.GridLists.{entries-of, split-come, join-gone}
use Rattle.edit_records.proofs.grid_lists.two_strings.Goals as goal

strings : (g : _) (c : goal.In_ok-add_point g) → c.add_point.new.self.strings
    ≡ span_entry (g.M.MapView.map c.args.map.now) c.args.point c.args.at c.args.first ∷ span_entry (g.M.MapView.map c.args.map.now) c.args.point c.args.at c.args.second ∷ []
strings g c =
    let entry = span_entry (g.M.MapView.map c.args.map.now) c.args.point c.args.at in
    c.add_point.ensures.strings ∙ c.in_ok-add_span_by-2.ensures.strings
    ∙ ap (λ (es : List Entry). es ++ entry c.args.second ∷ [])
    (c.in_ok-add_span_by.ensures.strings ∙ ap (λ (l : Listed). l.strings ++ entry c.args.first ∷ []) c.new-entries.ensures)

points : (g : _) (c : goal.In_ok-add_point g) → c.add_point.new.self.points ≡ entry_of c.args.point c.args.at c.args.at ∷ []
points g c =
    c.in_ok-add_point.ensures.added ∙ ap (λ (es : List Entry). es ++ entry_of c.args.point c.args.at c.args.at ∷ [])
    (c.add_span_by-2.ensures.points ∙ c.add_span_by.ensures.points ∙ ap (λ (l : Listed). l.points) c.new-entries.ensures)

pub returns-clause-splits : goal.returns-clause-splits
returns-clause-splits g c = λ b row beside is from to from_two to_two.
    let a = c.args in
    entries-of _ c.add_point.new.self _ (strings g c) (points g c)
    (split-come (g.M.MapView.map a.map.now) b a.point a.at.x a.at.y a.first.string a.second.string row is beside a.first a.second refl refl from to from_two to_two)

pub returns-clause-joins : goal.returns-clause-joins
returns-clause-joins g c = λ b row s t new beside are is_s is_t is there.
    let a = c.args in
    entries-of _ c.add_point.new.self _ (strings g c) (points g c)
    (join-gone (g.M.MapView.map a.map.now) b a.point new beside s t are a.at row is there a.first a.second is_s is_t)
