use Rattle.std.proofs.Common.{ℕ, ◌≤◌, sym, ap, subst, length}
use Rattle.std.proofs.lemmas.Bool.{iff_false}
use Rattle.std.specs.List.{AllByRecursion}
use Rattle.cad_rows.specs.declared.rows.PointRow.{PointRow}
use Rattle.cad_map.specs.Valid.{LiesOnlyAsEnd}
use Rattle.cad_valid.proofs.Decisions.{stepwise-all, goes, stops, ends}
use Rattle.cad_valid.proofs.crossings.all_points_lie_at_ends.Goals as goal

pub loop-place-init : goal.loop-place-init
loop-place-init g c = ((λ h. h), (λ h. h))

pub returns-then-not-lies_at_ends : goal.returns-then-not-lies_at_ends
returns-then-not-lies_at_ends g c =
    let m = g.M.MapView.map c.args.map.now in
    let at = rw c.unwrap-point.ensures at c.point_at.ensures in
    stops (stepwise-all (λ (p : PointRow). AllByRecursion (LiesOnlyAsEnd m p) m.strings)) m.points m.points c.loop-place.place c.loop-place.invariant _ (sym at) (iff_false c.lies_at_ends.ensures c.if-not-lies_at_ends.true)

pub loop-place-preserved : goal.loop-place-preserved
loop-place-preserved g c =
    let m = g.M.MapView.map c.args.map.now in
    let at = rw c.unwrap-point.ensures at c.point_at.ensures in
    goes (stepwise-all (λ (p : PointRow). AllByRecursion (LiesOnlyAsEnd m p) m.strings)) m.points m.points c.loop-place.place c.loop-place.invariant _ (sym at) (c.lies_at_ends.ensures.0 c.if-not-lies_at_ends.false)

pub returns : goal.returns
returns g c =
    let m = g.M.MapView.map c.args.map.now in
    let past : length m.points ≤ c.loop-place.place = subst (λ (n : ℕ). n ≤ c.loop-place.place) (ap (λ r. r.points) c.counts-place-end.ensures) c.loop-place-test.false in
    ends (stepwise-all (λ (p : PointRow). AllByRecursion (LiesOnlyAsEnd m p) m.strings)) m.points m.points c.loop-place.place c.loop-place.invariant past
