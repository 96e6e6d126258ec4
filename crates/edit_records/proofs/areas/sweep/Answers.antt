use Rattle.std.proofs.Common.{◌<◌, ◌≤◌, ℕ, refl, subst, length, take, arith}
use Rattle.std.proofs.lemmas.List.Sorted.{length_permutation}
use Rattle.cad_map.specs.Map.{strings_at}
use Rattle.cad_map.proofs.CallerLemmas.{all-told}
use Rattle.edit_records.proofs.AreaGains.{gains-none}
use Rattle.edit_records.proofs.AreaSides.{holds-swept, string-within, swept-more}
use Rattle.edit_records.proofs.areas.sweep.Goals as goal

pub loop-place-init : goal.loop-place-init
loop-place-init g c = record {
  gains = λ f. gains-none c.args.areas.now c.args.areas.now f refl;
  each = λ low. absurd (omega (arith, low));
}

pub loop-place-preserved : goal.loop-place-preserved
loop-place-preserved g c =
    let m = g.M.MapView.map c.args.map.now in
    let a = c.args in
    let it = c.loop-place in
    let strings = g.M.MapView.view_strings c.args.map.now a.point in
    let same =
    length_permutation (strings_at m a.point) strings c.sweep_beside.ensures.each in
    let low : it.place < length strings =
    omega (arith, same, c.degree-place-end.ensures, c.loop-place-test.true) in
    let told = string-within strings it.place low in
    record {
      gains = λ f.
          swept-more m f a.point a.from a.to a.areas.now it.areas c.sweep_beside.new.areas strings
          it.place told.0 told.1 (it.invariant.gains f)
          (c.sweep_beside.ensures.gains f told.0 told.1);
      each = λ _. c.sweep_beside.ensures.each;
    }

pub returns : goal.returns
returns g c x y in_x in_y held =
    let m = g.M.MapView.map c.args.map.now in
    let a = c.args in
    let it = c.loop-place in
    let strings = g.M.MapView.view_strings c.args.map.now a.point in
    let past : length (strings_at m a.point) ≤ it.place =
    subst (λ (n : ℕ). n ≤ it.place) c.degree-place-end.ensures c.loop-place-test.false in
    holds-swept m x y a.point a.from a.to a.areas.now it.areas (take it.place strings) c.requires
    (all-told m a.point strings it.place past it.invariant.each) it.invariant.gains in_x in_y held
