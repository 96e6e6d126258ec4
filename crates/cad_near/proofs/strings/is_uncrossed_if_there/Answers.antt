use Rattle.std.proofs.Common.{sym}
use Rattle.cad_near.specs.Near.{IsUncrossed}
use Rattle.cad_near.proofs.RowsByNumber.{of_string, string-placed}
use Rattle.cad_near.proofs.strings.is_uncrossed_if_there.Goals as goal

pub is_uncrossed-requires-clause-placed : goal.is_uncrossed-requires-clause-placed
is_uncrossed-requires-clause-placed g c =
    string-placed (g.M.MapView.map c.args.map.now) c.requires.rows c.args.string c.in-Some.row.now (sym c.in-Some.ensures)

pub returns-in-Some : goal.returns-in-Some
returns-in-Some g c =
    let m = g.M.MapView.map c.args.map.now in
    of_string m c.requires.rows.v1 (IsUncrossed m) c.args.string c.in-Some.row.now (sym c.in-Some.ensures) c.is_uncrossed.result c.is_uncrossed.ensures
