use Rattle.std.proofs.Common.{sym}
use Rattle.cad_near.specs.Near.{MeetsIfOther}
use Rattle.cad_near.proofs.RowsByNumber.{of_string, string-placed}
use Rattle.cad_near.proofs.strings.meets_if_there.Goals as goal

pub meets_if_other-requires-clause-other_placed : goal.meets_if_other-requires-clause-other_placed
meets_if_other-requires-clause-other_placed g c =
    string-placed (g.M.MapView.map c.args.map.now) c.requires.rows c.args.other c.in-Some.row.now (sym c.in-Some.ensures)

pub returns-in-Some : goal.returns-in-Some
returns-in-Some g c =
    let m = g.M.MapView.map c.args.map.now in
    of_string m c.requires.rows.v1 (MeetsIfOther m c.args.string.now) c.args.other c.in-Some.row.now (sym c.in-Some.ensures) c.meets_if_other.result c.meets_if_other.ensures
