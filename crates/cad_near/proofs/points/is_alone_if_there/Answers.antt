use Rattle.std.proofs.Common.{sym}
use Rattle.cad_near.specs.Near.{IsAlone}
use Rattle.cad_near.proofs.RowsByNumber.{of_point}
use Rattle.cad_near.proofs.points.is_alone_if_there.Goals as goal

pub returns-in-Some : goal.returns-in-Some
returns-in-Some g c =
    let m = g.M.MapView.map c.args.map.now in
    of_point m c.requires.sound (IsAlone m) c.args.point c.in-Some.row.now (sym c.in-Some.ensures) c.is_alone.result c.is_alone.ensures
