use Rattle.std.proofs.Common.{◌∙◌, ◌≤◌, ℕ, refl, sym, ap, subst, true≢false, length, arith}
use Rattle.std.proofs.lemmas.List.Sorted.{length_permutation}
use Rattle.cad_map.specs.Map.{strings_at, far_end}
use Rattle.cad_valid.specs.Corners.{is_empty_after}
use Rattle.cad_map.proofs.CallerLemmas.{lent-some, lent-is}
use Rattle.cad_near.proofs.NearCorners.{corners-by_strings}
use Rattle.cad_valid.proofs.CallerLemmas.{passed-all, passed-more, lent-there}
use Rattle.cad_near.proofs.corners.has_empty_corners_one_by_one.Goals as goal

pub unwrap-requires : goal.unwrap-requires
unwrap-requires g c =
    let strings = g.M.MapView.view_strings c.args.map.now c.args.point in
    let same = length_permutation (strings_at (g.M.MapView.map c.args.map.now) c.args.point) strings c.string_with.ensures.each in
    lent-some c.string_with.result strings c.loop-place.place c.string_with.ensures.string (omega (arith, same, c.degree-place-end.ensures, c.loop-place-test.true))

pub returns-then-not-is_empty_after : goal.returns-then-not-is_empty_after
returns-then-not-is_empty_after g c =
    let m = g.M.MapView.map c.args.map.now in
    let p = c.args.point in
    let strings = g.M.MapView.view_strings c.args.map.now p in
    let row = c.unwrap.result.now in
    let at = lent-there m p (λ s. is_empty_after m (far_end s p, p)) strings c.loop-place.place c.string_with.result c.unwrap.result c.string_with.ensures.string c.unwrap.ensures c.string_with.ensures.each in
    let fails = ap (λ (n : ℕ). is_empty_after m (n, p)) (sym c.far_end-from.ensures) ∙ sym c.is_empty_after.ensures ∙ c.if-not-is_empty_after.true in
    ((λ no. absurd (true≢false (sym no))), (λ empty. absurd (true≢false (sym ((corners-by_strings m c.requires p).1 empty row at.0 at.1) ∙ fails))))

pub loop-place-preserved : goal.loop-place-preserved
loop-place-preserved g c =
    let m = g.M.MapView.map c.args.map.now in
    let p = c.args.point in
    let strings = g.M.MapView.view_strings c.args.map.now p in
    let row = c.unwrap.result.now in
    let told = lent-is c.string_with.result c.unwrap.result strings c.loop-place.place c.string_with.ensures.string c.unwrap.ensures in
    passed-more m p (λ s. is_empty_after m (far_end s p, p)) strings c.loop-place.place c.loop-place.invariant row told c.string_with.ensures.each
    (ap (λ (n : ℕ). is_empty_after m (n, p)) (sym c.far_end-from.ensures) ∙ sym c.is_empty_after.ensures ∙ c.if-not-is_empty_after.false)

pub returns : goal.returns
returns g c =
    let m = g.M.MapView.map c.args.map.now in
    let p = c.args.point in
    let strings = g.M.MapView.view_strings c.args.map.now p in
    let past : length (strings_at m p) ≤ c.loop-place.place = subst (λ (n : ℕ). n ≤ c.loop-place.place) c.degree-place-end.ensures c.loop-place-test.false in (
      (λ _. (corners-by_strings m c.requires p).0 (λ s there end.
          passed-all m p (λ s. is_empty_after m (far_end s p, p)) strings c.loop-place.place c.loop-place.invariant past s there end)),
      (λ _. refl),
    )
