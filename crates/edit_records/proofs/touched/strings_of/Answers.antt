use Rattle.std.proofs.Common.{◌≤◌, ℕ, Some, refl, sym, ap, subst, ◌∙◌, List, [], ◌∷◌, ◌++◌, take, map, length}
use Rattle.std.specs.List.{Contains}
use Rattle.std.proofs.lemmas.List.Sorted.{Contains-permutation}
use Rattle.cad_rows.specs.declared.rows.StringRow.{StringRow}
use Rattle.cad_map.specs.declared.span.Span.{Span}
use Rattle.cad_map.specs.Map.{strings_at}
use Rattle.cad_map.specs.Spans.{span_of}
use Rattle.cad_map.proofs.CallerLemmas.{take-more, all-told, told-is, Contains-map}
use Rattle.edit_records.proofs.GridRows.{map-last}
use Rattle.edit_records.proofs.touched.strings_of.Goals as goal

pub loop-place-preserved : goal.loop-place-preserved
loop-place-preserved g c =
    let strings = g.M.MapView.view_strings c.args.map.now c.args.point in
    let span = c.span_at_place-span.result in
    let told = told-is span_of (Some span) span strings c.loop-place.place (sym c.span_at_place-span.ensures.told) refl in
    let row = told.0 in
    record {
      strings = c.in_ok-push.ensures.items ∙ ap (λ (x : Span). c.loop-place.strings.items ++ x.string ∷ []) (sym told.2)
          ∙ ap (λ (l : List ℕ). l ++ row.number ∷ []) c.loop-place.invariant.strings
          ∙ sym (map-last (λ (s : StringRow). s.number) (take c.loop-place.place strings) row)
          ∙ ap (map (λ (s : StringRow). s.number)) (take-more strings c.loop-place.place row told.1);
      each = λ _. c.span_at_place-span.ensures.each;
    }

pub returns : goal.returns
returns g c s there =
    let m = g.M.MapView.map c.args.map.now in
    let strings = g.M.MapView.view_strings c.args.map.now c.args.point in
    let past : length (strings_at m c.args.point) ≤ c.loop-place.place = subst (λ (n : ℕ). n ≤ c.loop-place.place) c.degree-place-end.ensures c.loop-place-test.false in
    subst (λ (l : List ℕ). Contains l s.number) (sym c.loop-place.invariant.strings)
    (Contains-map (λ (s : StringRow). s.number) (take c.loop-place.place strings) s
    (Contains-permutation (strings_at m c.args.point) (take c.loop-place.place strings) s (all-told m c.args.point strings c.loop-place.place past c.loop-place.invariant.each) there))
