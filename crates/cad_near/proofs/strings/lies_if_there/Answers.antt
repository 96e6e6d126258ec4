use Rattle.std.proofs.Common.{sym}
use Rattle.cad_map.specs.Valid.{LiesOnlyAsEnd}
use Rattle.cad_valid.proofs.CallerLemmas.{lies-by}
use Rattle.cad_near.proofs.RowsByNumber.{of_string}
use Rattle.cad_near.proofs.strings.lies_if_there.Goals as goal

pub returns-in-Some : goal.returns-in-Some
returns-in-Some g c =
    let m = g.M.MapView.map c.args.map.now in
    let lies = lies-by m c.args.point.now c.in-Some.row.now c.lies_only_as_end.result _ _ c.placed_point.ensures c.placed_string.ensures c.lies_only_as_end.ensures in
    of_string m c.requires.v1 (LiesOnlyAsEnd m c.args.point.now) c.args.string c.in-Some.row.now (sym c.in-Some.ensures) c.lies_only_as_end.result lies
