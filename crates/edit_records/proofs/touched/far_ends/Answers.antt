use Rattle.std.proofs.Common.{◌≤◌, ℕ, sym, ap, subst, ◌∙◌, List, [], ◌∷◌, ◌++◌, take, map, length}
use Rattle.std.specs.Prelude.{IsPermutation}
use Rattle.std.proofs.lemmas.List.Sorted.{IsPermutation-map}
use Rattle.cad_rows.specs.declared.rows.StringRow.{StringRow}
use Rattle.cad_map.specs.Map.{far_end, strings_at}
use Rattle.cad_map.proofs.CallerLemmas.{take-more, all-told}
use Rattle.edit_records.proofs.GridRows.{map-last}
use Rattle.edit_records.proofs.touched.far_ends.Goals as goal

pub loop-place-preserved : goal.loop-place-preserved
loop-place-preserved g c =
    let strings = g.M.MapView.view_strings c.args.map.now c.args.point in
    let far : StringRow → ℕ = λ s. far_end s c.args.point in
    let row = c.string_at-row.result.now in
    record {
      points = c.in_ok-push.ensures.items ∙ ap (λ (p : ℕ). c.loop-place.points.items ++ p ∷ []) c.far_end.ensures
          ∙ ap (λ (l : List ℕ). l ++ far row ∷ []) c.loop-place.invariant.points
          ∙ sym (map-last far (take c.loop-place.place strings) row)
          ∙ ap (map far) (take-more strings c.loop-place.place row c.string_at-row.ensures.told);
      each = λ _. c.string_at-row.ensures.each;
    }

pub returns : goal.returns
returns g c =
    let m = g.M.MapView.map c.args.map.now in
    let far : StringRow → ℕ = λ s. far_end s c.args.point in
    let strings = g.M.MapView.view_strings c.args.map.now c.args.point in
    let past : length (strings_at m c.args.point) ≤ c.loop-place.place = subst (λ (n : ℕ). n ≤ c.loop-place.place) c.degree-place-end.ensures c.loop-place-test.false in
    subst (IsPermutation (map far (strings_at m c.args.point))) (sym c.loop-place.invariant.points)
    (IsPermutation-map far (strings_at m c.args.point) (take c.loop-place.place strings) (all-told m c.args.point strings c.loop-place.place past c.loop-place.invariant.each))
