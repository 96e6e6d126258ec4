use Rattle.std.proofs.Common.{ℕ, ◌≤◌, sym, ap, subst, length}
use Rattle.std.proofs.lemmas.Bool.{iff_false}
use Rattle.cad_map.specs.Valid.{LiesOnlyAsEnd}
use Rattle.cad_valid.proofs.Decisions.{stepwise-all, goes, stops, ends}
use Rattle.cad_valid.proofs.PlacedStrings.{lies-by}
use Rattle.cad_valid.proofs.crossings.lies_at_ends.Goals as goal

pub loop-place-init : goal.loop-place-init
loop-place-init g c = ((λ h. h), (λ h. h))

pub returns-then-not-lies_only_as_end : goal.returns-then-not-lies_only_as_end
returns-then-not-lies_only_as_end g c =
    let m = g.M.MapView.map c.args.map.now in
    let at = rw c.unwrap-string.ensures at c.string_at.ensures in
    let lies = lies-by m c.args.point.now c.unwrap-string.result.now _ _ _ c.placed_point-here.ensures c.placed_string.ensures c.lies_only_as_end.ensures in
    stops (stepwise-all (LiesOnlyAsEnd m c.args.point.now)) m.strings m.strings c.loop-place.place c.loop-place.invariant _ (sym at) (iff_false lies c.if-not-lies_only_as_end.true)

pub loop-place-preserved : goal.loop-place-preserved
loop-place-preserved g c =
    let m = g.M.MapView.map c.args.map.now in
    let at = rw c.unwrap-string.ensures at c.string_at.ensures in
    let lies = lies-by m c.args.point.now c.unwrap-string.result.now _ _ _ c.placed_point-here.ensures c.placed_string.ensures c.lies_only_as_end.ensures in
    goes (stepwise-all (LiesOnlyAsEnd m c.args.point.now)) m.strings m.strings c.loop-place.place c.loop-place.invariant _ (sym at) (lies.0 c.if-not-lies_only_as_end.false)

pub returns : goal.returns
returns g c =
    let m = g.M.MapView.map c.args.map.now in
    let past : length m.strings ≤ c.loop-place.place = subst (λ (n : ℕ). n ≤ c.loop-place.place) (ap (λ r. r.strings) c.counts-place-end.ensures) c.loop-place-test.false in
    ends (stepwise-all (LiesOnlyAsEnd m c.args.point.now)) m.strings m.strings c.loop-place.place c.loop-place.invariant past
