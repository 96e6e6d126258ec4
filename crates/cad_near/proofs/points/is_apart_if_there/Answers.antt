use Rattle.std.proofs.Common.{sym}
use Rattle.cad_near.specs.Near.{IsApart}
use Rattle.cad_near.proofs.RowsByNumber.{of_point}
use Rattle.cad_near.proofs.points.is_apart_if_there.Goals as goal

pub returns-in-Some : goal.returns-in-Some
returns-in-Some g c =
    let m = g.M.MapView.map c.args.map.now in
    of_point m c.requires (IsApart c.args.point.now) c.args.other c.in-Some.row.now (sym c.in-Some.ensures) c.is_apart.result c.is_apart.ensures
