use Rattle.std.proofs.Common.{◌≡◌, ◌≤◌, ℕ, ◌++◌, ◌∙◌, sym, ap, refl, subst, List, [], ◌∷◌, length, take, map, arith}
use Rattle.std.specs.Prelude.{IsPermutation}
use Rattle.std.proofs.lemmas.List.{map-append}
use Rattle.std.proofs.lemmas.List.Sorted.{length_permutation, IsPermutation-refl}
use Rattle.cad_rows.specs.declared.rows.StringRow.{StringRow}
use Rattle.cad_map.specs.Map.{strings_at, far_end, position_of}
use Rattle.cad_map.specs.Stars.{spoke_of}
use Rattle.cad_map.specs.declared.stars.Spoke.{Spoke}
use Rattle.cad_map.proofs.CallerLemmas.{all-told, lent-some, lent-is, take-more}
use Rattle.cad_near.specs.Rays.{ray_of, ray_along}
use Rattle.cad_near.specs.declared.rays.Ray.{Ray}
use Rattle.cad_near.proofs.ManyStrings.{spokes-more, spokes-told}
use Rattle.cad_near.proofs.turns.spokes_at.Goals as goal

pub unwrap-requires : goal.unwrap-requires
unwrap-requires g c =
    let strings = g.M.MapView.view_strings c.args.map.now c.args.point in
    let same = length_permutation (strings_at (g.M.MapView.map c.args.map.now) c.args.point) strings c.string_with.ensures.each in
    lent-some c.string_with.result strings c.loop-place.place c.string_with.ensures.string (omega (arith, same, c.degree-degree.ensures, c.loop-place-test.true))

pub loop-place-preserved : goal.loop-place-preserved
loop-place-preserved g c =
    let m = g.M.MapView.map c.args.map.now in
    let p = c.args.point in
    let strings = g.M.MapView.view_strings c.args.map.now p in
    let place = c.loop-place.place in
    let row : StringRow = c.unwrap.result.now in
    let told = lent-is c.string_with.result c.unwrap.result strings place c.string_with.ensures.string c.unwrap.ensures in
    let before = c.loop-place.spokes.items in
    let spoke : Spoke = record { at = p; far = c.far_end-far.result; position = c.position.result; place = place } in
    let far = c.far_end-far.ensures in
    let lies : c.position.result ≡ position_of m (far_end row p) = c.position.ensures ∙ ap (position_of m) far in
    let ray : ray_along spoke ≡ ray_of m p row = λ i. record { far = far i; position = lies i } in
    let is : spoke ≡ spoke_of m place row p = λ i. record { at = p; far = far i; position = lies i; place = place } in
    let put = c.in_ok-push.ensures.items in
    record {
      rays =
          ap (map ray_along) put ∙ map-append ray_along before (spoke ∷ [])
          ∙ (λ i. c.loop-place.invariant.rays i ++ ray i ∷ [])
          ∙ sym (map-append (ray_of m p) (take place strings) (row ∷ [])) ∙ ap (map (ray_of m p)) (take-more strings place row told);
      seen = spokes-more m p strings place row before c.push.new.self.items spoke told is put c.loop-place.invariant.seen;
      each = λ _. c.string_with.ensures.each;
    }

pub returns : goal.returns
returns g c =
    let m = g.M.MapView.map c.args.map.now in
    let p = c.args.point in
    let strings = g.M.MapView.view_strings c.args.map.now p in
    let past : length (strings_at m p) ≤ c.loop-place.place = subst (λ (n : ℕ). n ≤ c.loop-place.place) c.degree-degree.ensures c.loop-place-test.false in
    let told = take c.loop-place.place strings in
    let each = all-told m p strings c.loop-place.place past c.loop-place.invariant.each in
    record {
      rays = record {
        rays = map (ray_of m p) told;
        are = record { strings = told; each = each; seen = refl };
        each = subst (λ (rays : List Ray). IsPermutation (map (ray_of m p) told) rays) (sym c.loop-place.invariant.rays) (IsPermutation-refl (map (ray_of m p) told));
      };
      strings = record { strings = told; each = each; seen = spokes-told m p strings c.loop-place.place c.loop-place.spokes.items c.loop-place.invariant.seen };
    }
