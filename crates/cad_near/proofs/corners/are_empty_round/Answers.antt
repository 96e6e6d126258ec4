use Rattle.std.proofs.Common.{◌∙◌, ◌≤◌, ℕ, take, refl, sym, subst, true≢false, length, arith}
use Rattle.std.proofs.lemmas.List.Sorted.{length_permutation, Contains-permutation, IsPermutation-sym}
use Rattle.std.specs.List.{AllByRecursion}
use Rattle.cad_rows.specs.declared.rows.StringRow.{StringRow}
use Rattle.cad_map.specs.Map.{far_end, strings_at}
use Rattle.cad_map.proofs.CallerLemmas.{all-told, told-some, told-is, take-more, All-push, All-at_each, Contains-at}
use Rattle.cad_near.specs.Near.{HasEmptyCornersAt}
use Rattle.cad_near.proofs.corners.are_empty_round.Goals as goal

pub unwrap-far-requires : goal.unwrap-far-requires
unwrap-far-requires g c =
    let strings = g.M.MapView.view_strings c.args.map.now c.args.point in
    let same = length_permutation (strings_at (g.M.MapView.map c.args.map.now) c.args.point) strings c.far_with.ensures.each in
    told-some (λ (s : StringRow). far_end s c.args.point) c.far_with.result strings c.loop-place.place c.far_with.ensures.far (omega (arith, same, c.degree-place-end.ensures, c.loop-place-test.true))

pub returns-then-not-is_empty_far : goal.returns-then-not-is_empty_far
returns-then-not-is_empty_far g c =
    let m = g.M.MapView.map c.args.map.now in
    let p = c.args.point in
    let strings = g.M.MapView.view_strings c.args.map.now p in
    let told = told-is (λ (s : StringRow). far_end s p) c.far_with.result c.unwrap-far.result strings c.loop-place.place c.far_with.ensures.far c.unwrap-far.ensures in
    let there = Contains-permutation strings (strings_at m p) told.0 (IsPermutation-sym (strings_at m p) strings c.far_with.ensures.each) (Contains-at strings c.loop-place.place told.0 told.1) in (
      (λ no. absurd (true≢false (sym no))),
      (λ round. absurd (true≢false (sym (c.is_empty_far.ensures.1 (subst (HasEmptyCornersAt m) told.2 (round told.0 there))) ∙ c.if-not-is_empty_far.true))),
    )

pub loop-place-preserved : goal.loop-place-preserved
loop-place-preserved g c =
    let m = g.M.MapView.map c.args.map.now in
    let p = c.args.point in
    let place = c.loop-place.place in
    let strings = g.M.MapView.view_strings c.args.map.now p in
    let P = λ (s : StringRow). HasEmptyCornersAt m (far_end s p) in
    let told = told-is (λ (s : StringRow). far_end s p) c.far_with.result c.unwrap-far.result strings place c.far_with.ensures.far c.unwrap-far.ensures in
    let here : P told.0 = subst (HasEmptyCornersAt m) (sym told.2) (c.is_empty_far.ensures.0 c.if-not-is_empty_far.false) in
    record {
      empty = subst (AllByRecursion P) (take-more strings place told.0 told.1) (All-push P (take place strings) told.0 c.loop-place.invariant.empty here);
      each = λ _. c.far_with.ensures.each;
    }

pub returns : goal.returns
returns g c =
    let m = g.M.MapView.map c.args.map.now in
    let p = c.args.point in
    let place = c.loop-place.place in
    let strings = g.M.MapView.view_strings c.args.map.now p in
    let past : length (strings_at m p) ≤ place = subst (λ (n : ℕ). n ≤ place) c.degree-place-end.ensures c.loop-place-test.false in (
      (λ _ s there. All-at_each (λ (s : StringRow). HasEmptyCornersAt m (far_end s p)) (take place strings) s c.loop-place.invariant.empty
          (Contains-permutation (strings_at m p) (take place strings) s (all-told m p strings place past c.loop-place.invariant.each) there)),
      (λ _. refl),
    )
