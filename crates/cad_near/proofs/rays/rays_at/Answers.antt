use Rattle.std.proofs.Common.{◌≤◌, ℕ, subst, length, take, arith}
use Rattle.std.proofs.lemmas.List.Sorted.{length_permutation}
use Rattle.cad_rows.specs.declared.rows.StringRow.{StringRow}
use Rattle.cad_map.specs.Map.{far_end, strings_at}
use Rattle.cad_map.proofs.CallerLemmas.{all-told, told-some}
use Rattle.cad_near.proofs.rays.rays_at.Goals as goal

pub unwrap-far-requires : goal.unwrap-far-requires
unwrap-far-requires g c =
    let strings = g.M.MapView.view_strings c.args.map.now c.args.point in
    let same = length_permutation (strings_at (g.M.MapView.map c.args.map.now) c.args.point) strings c.far_with.ensures.each in
    told-some (λ (s : StringRow). far_end s c.args.point) c.far_with.result strings c.loop-place.place c.far_with.ensures.far (omega (arith, same, c.degree-place-end.ensures, c.loop-place-test.true))

pub returns : goal.returns
returns g c =
    let m = g.M.MapView.map c.args.map.now in
    let strings = g.M.MapView.view_strings c.args.map.now c.args.point in
    let past : length (strings_at m c.args.point) ≤ c.loop-place.place = subst (λ (n : ℕ). n ≤ c.loop-place.place) c.degree-place-end.ensures c.loop-place-test.false in
    record {
      strings = take c.loop-place.place strings;
      each = all-told m c.args.point strings c.loop-place.place past c.loop-place.invariant.each;
      seen = c.loop-place.invariant.seen;
    }
