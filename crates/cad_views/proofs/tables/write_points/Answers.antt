use Rattle.std.proofs.Common.{◌≡◌, ◌<◌, ◌≤◌, sym, length, take}
use Rattle.std.proofs.lemmas.List.{take_all}
use Rattle.std.proofs.lemmas.Option.{get_or_from_slice_get}
use Rattle.cad_views.specs.Tables.{point_row}
use Rattle.cad_views.proofs.JoinFacts.{appended-map}
use Rattle.cad_views.proofs.tables.write_points.Goals as goal

pub loop-place-preserved : goal.loop-place-preserved
loop-place-preserved c =
    let points = c.args.map.now.points in
    let place = c.loop-place.place in
    let row = c.unwrap.result.now in
    let at = rw c.unwrap.ensures at c.point_at.ensures in
    let within : place < length points = rw c.counts-place-end.ensures at c.loop-place-test.true in
    appended-map point_row points place row within (sym (get_or_from_slice_get points place row row (sym at))) c.loop-place.invariant c.in_ok-write_point.ensures

pub returns : goal.returns
returns c =
    let points = c.args.map.now.points in
    let past : length points ≤ c.loop-place.place = rw c.counts-place-end.ensures at c.loop-place-test.false in
    let whole : take c.loop-place.place points ≡ points = take_all c.loop-place.place points past in
    rw whole at c.loop-place.invariant
