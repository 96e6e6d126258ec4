use Rattle.std.proofs.Common.{ℕ, ◌≤◌, ◌∙◌, sym, ap, subst, length}
use Rattle.cad_valid.specs.Corners.{are_empty_beside}
use Rattle.cad_valid.proofs.Tests.{all-stops, all-goes, all-done}
use Rattle.cad_valid.proofs.EmptyCorners.{corners-by_strings}
use Rattle.cad_valid.proofs.corners.has_empty_corners.Goals as goal

pub returns-then-not-are_empty_beside : goal.returns-then-not-are_empty_beside
returns-then-not-are_empty_beside g c =
    let m = g.M.MapView.map c.args.map.now in
    let at = rw c.unwrap-string.ensures at c.string_at.ensures in
    sym (corners-by_strings m c.requires ∙ c.loop-place.invariant ∙ all-stops (are_empty_beside m) m.strings c.loop-place.place _ (sym at) (sym c.are_empty_beside.ensures ∙ c.if-not-are_empty_beside.true))

pub loop-place-preserved : goal.loop-place-preserved
loop-place-preserved g c =
    let m = g.M.MapView.map c.args.map.now in
    let at = rw c.unwrap-string.ensures at c.string_at.ensures in
    c.loop-place.invariant ∙ all-goes (are_empty_beside m) m.strings c.loop-place.place _ (sym at) (sym c.are_empty_beside.ensures ∙ c.if-not-are_empty_beside.false)

pub returns : goal.returns
returns g c =
    let m = g.M.MapView.map c.args.map.now in
    let past : length m.strings ≤ c.loop-place.place = subst (λ (n : ℕ). n ≤ c.loop-place.place) (ap (λ r. r.strings) c.counts-place-end.ensures) c.loop-place-test.false in
    sym (corners-by_strings m c.requires ∙ c.loop-place.invariant ∙ all-done (are_empty_beside m) m.strings c.loop-place.place past)
