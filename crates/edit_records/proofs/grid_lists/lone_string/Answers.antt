use Rattle.std.proofs.Common.{◌≡◌, ap, refl, ◌∙◌, ◌++◌, ◌∷◌, []}
use Rattle.cell_grid.specs.Together.{Listed}
use Rattle.edit_records.specs.GridLists.{span_entry}
use Rattle.edit_records.proofs.GridLists.{entries-of, split-gone_span, join-come}
use Rattle.edit_records.proofs.grid_lists.lone_string.Goals as goal

strings : (g : _) (c : goal.In_ok-add_span_by g) → c.add_span_by.new.entries.strings
    ≡ span_entry (g.M.MapView.map c.args.map.now) c.args.point c.args.at c.args.span ∷ []
strings g c =
    let entry = span_entry (g.M.MapView.map c.args.map.now) c.args.point c.args.at c.args.span in
    c.in_ok-add_span_by.ensures.strings ∙ ap (λ (l : Listed). l.strings ++ entry ∷ []) c.new-entries.ensures

points : (g : _) (c : goal.In_ok-add_span_by g) → c.add_span_by.new.entries.points ≡ []
points g c = c.add_span_by.ensures.points ∙ ap (λ (l : Listed). l.points) c.new-entries.ensures

pub returns-clause-splits : goal.returns-clause-splits
returns-clause-splits g c = λ b row first second beside is same.
    let a = c.args in
    entries-of _ c.add_span_by.new.entries _ (strings g c) (points g c)
    (split-gone_span (g.M.MapView.map a.map.now) b a.point a.at.x a.at.y first second a.span row beside is same)

pub returns-clause-joins : goal.returns-clause-joins
returns-clause-joins g c = λ b first second beside are from to.
    let a = c.args in
    entries-of _ c.add_span_by.new.entries _ (strings g c) (points g c)
    (join-come (g.M.MapView.map a.map.now) b a.point a.span.string beside first second are a.at a.span refl from to)
