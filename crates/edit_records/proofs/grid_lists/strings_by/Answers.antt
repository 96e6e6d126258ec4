use Rattle.std.proofs.Common.{◌≤◌, ℕ, Some, refl, sym, ap, subst, ◌∙◌, List, [], ◌∷◌, ◌++◌, take, map, length}
use Rattle.std.specs.Prelude.{IsPermutation}
use Rattle.std.proofs.lemmas.List.Sorted.{IsPermutation-map}
use Rattle.cad_map.specs.declared.span.Span.{Span}
use Rattle.cad_map.specs.Map.{strings_at}
use Rattle.cad_map.specs.Spans.{span_of}
use Rattle.cad_map.proofs.CallerLemmas.{take-more, all-told, told-is}
use Rattle.cell_grid.specs.declared.entry.Entry.{Entry}
use Rattle.edit_records.specs.GridLists.{span_at, span_entry}
use Rattle.edit_records.proofs.GridRows.{map-last}
use Rattle.edit_records.proofs.grid_lists.strings_by.Goals as goal

pub loop-place-preserved : goal.loop-place-preserved
loop-place-preserved g c =
    let m = g.M.MapView.map c.args.map.now in
    let entry = span_at m c.args.point c.args.at in
    let strings = g.M.MapView.view_strings c.args.map.now c.args.point in
    let span = c.span_at_place-span.result in
    let told = told-is span_of (Some span) span strings c.loop-place.place (sym c.span_at_place-span.ensures.told) refl in
    let row = told.0 in
    record {
      strings = c.in_ok-add_span_by.ensures.strings ∙ ap (λ (x : Span). c.loop-place.entries.strings ++ span_entry m c.args.point c.args.at x ∷ []) (sym told.2)
          ∙ ap (λ (es : List Entry). es ++ entry row ∷ []) c.loop-place.invariant.strings
          ∙ sym (map-last entry (take c.loop-place.place strings) row) ∙ ap (map entry) (take-more strings c.loop-place.place row told.1);
      points = c.add_span_by.ensures.points ∙ c.loop-place.invariant.points;
      each = λ _. c.span_at_place-span.ensures.each;
    }

pub returns-clause-strings : goal.returns-clause-strings
returns-clause-strings g c =
    let m = g.M.MapView.map c.args.map.now in
    let entry = span_at m c.args.point c.args.at in
    let strings = g.M.MapView.view_strings c.args.map.now c.args.point in
    let past : length (strings_at m c.args.point) ≤ c.loop-place.place = subst (λ (n : ℕ). n ≤ c.loop-place.place) c.degree-place-end.ensures c.loop-place-test.false in
    subst (IsPermutation (map entry (strings_at m c.args.point))) (sym c.loop-place.invariant.strings)
    (IsPermutation-map entry (strings_at m c.args.point) (take c.loop-place.place strings) (all-told m c.args.point strings c.loop-place.place past c.loop-place.invariant.each))
