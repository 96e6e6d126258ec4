use Rattle.std.proofs.Common.{◌≡◌, ◌+◌, arith}
use Rattle.std.proofs.lemmas.List.{get_or_read}
use Rattle.std.specs.Prelude.{slice_index}
use Rattle.cad_rings.proofs.SidesInTurn.{side_inside, side_last}
use Rattle.cad_rings.proofs.sides.side_at.Goals as goal

pub returns-then-place-points : goal.returns-then-place-points
returns-then-place-points c =
    let side = side_inside c.args.points.now c.args.place (omega arith) in
    let from : c.index-points-place.result ≡ slice_index c.args.points.now c.args.place = get_or_read c.args.points.now c.args.place c.index-points-place.result (omega arith) c.index-points-place.is 0 in
    let to = get_or_read c.args.points.now (c.args.place + 1) c.index-points-place-then-place-points.result (omega arith) c.index-points-place-then-place-points.is 0 in
    cc

pub returns-else-place-points : goal.returns-else-place-points
returns-else-place-points c =
    let side = side_last c.args.points.now c.args.place (omega arith) in
    let from = get_or_read c.args.points.now c.args.place c.index-points-place-else-place-points.result (omega arith) c.index-points-place-else-place-points.is 0 in
    let to = get_or_read c.args.points.now 0 c.index-points-0.result (omega arith) c.index-points-0.is 0 in
    cc
