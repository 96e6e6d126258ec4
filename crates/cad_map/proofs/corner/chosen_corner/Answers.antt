use Rattle.std.proofs.Common.{◌≡◌, ◌+◌, ◌≤◌, ℕ, sym, ap, subst, ◌∙◌, arith, List, [], ◌∷◌, ◌++◌, take, map, length}
use Rattle.std.specs.Prelude.{option_map}
use Rattle.std.proofs.lemmas.List.{map-append}
use Rattle.std.proofs.lemmas.List.Sorted.{length_permutation}
use Rattle.cad_rows.specs.declared.rows.StringRow.{StringRow}
use Rattle.cad_map.specs.Choice.{MayBeChosen, IsFirst}
use Rattle.cad_map.specs.Map.{strings_at, far_end}
use Rattle.cad_map.proofs.Lists.Entries.{take-more}
use Rattle.cad_map.proofs.Walks.FirstCorners.{first-none, first-more, first-chosen}
use Rattle.cad_map.proofs.Boundaries.RingsOfMap.{whole_valid}
use Rattle.cad_map.proofs.Ends.StringsTold.{told-there, all-told}
use Rattle.cad_map.proofs.corner.chosen_corner.Goals as goal

pub loop-place-init : goal.loop-place-init
loop-place-init g c = record {
  first = first-none (g.M.MapView.map c.args.map.now) c.args.face.now c.args.at c.args.towards;
  each = λ more. absurd (omega (arith, more));
}

pub loop-place-preserved : goal.loop-place-preserved
loop-place-preserved g c =
    let m = g.M.MapView.map c.args.map.now in
    let at = c.args.at in
    let strings = g.M.MapView.view_strings c.args.map.now at in
    let so_far = take c.loop-place.place strings in
    let far = λ (s : StringRow). far_end s at in
    let same = length_permutation (strings_at m at) strings c.corner_at.ensures.each in
    let told = told-there strings c.loop-place.place (omega (arith, same, c.degree-place-end.ensures, c.loop-place-test.true)) in
    let more : map far so_far ++ far told.0 ∷ [] ≡ map far (take (c.loop-place.place + 1) strings) =
    sym (map-append far so_far (told.0 ∷ [])) ∙ ap (map far) (take-more strings c.loop-place.place told.0 told.1) in
    record {
      first = subst (λ (ends : List ℕ). IsFirst (MayBeChosen m c.args.face.now at c.args.towards ends) c.first_by_after-chosen.result) more
          (first-more m c.args.face.now at c.args.towards (map far so_far) (far told.0 ∷ []) c.loop-place.chosen c.corner_at.result c.first_by_after-chosen.result
          c.loop-place.invariant.first (c.corner_at.ensures.first (far told.0) (ap (option_map far) told.1)) c.first_by_after-chosen.ensures);
      each = λ _. c.corner_at.ensures.each;
    }

pub returns : goal.returns
returns g c =
    let m = g.M.MapView.map c.args.map.now in
    let at = c.args.at in
    let strings = g.M.MapView.view_strings c.args.map.now at in
    let past : length (strings_at m at) ≤ c.loop-place.place = subst (λ (n : ℕ). n ≤ c.loop-place.place) c.degree-place-end.ensures c.loop-place-test.false in
    let all = all-told m at strings c.loop-place.place past c.loop-place.invariant.each in
    sym (first-chosen m (whole_valid m c.requires) c.args.face.now at c.args.towards (take c.loop-place.place strings) all c.loop-place.chosen c.loop-place.invariant.first)
