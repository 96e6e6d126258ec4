use Rattle.std.proofs.Common.{sym}
use Rattle.cad_near.specs.Near.{LiesAtEnds}
use Rattle.cad_near.proofs.RowsByNumber.{of_point}
use Rattle.cad_near.proofs.strings.lies_at_ends_if_there.Goals as goal

pub returns-in-Some : goal.returns-in-Some
returns-in-Some g c =
    let m = g.M.MapView.map c.args.map.now in
    of_point m c.requires.rows.v1 (LiesAtEnds m) c.args.point c.in-Some.row.now (sym c.in-Some.ensures) c.lies_at_ends.result c.lies_at_ends.ensures
