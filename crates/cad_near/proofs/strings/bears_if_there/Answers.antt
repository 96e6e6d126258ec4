use Rattle.std.proofs.Common.{sym}
use Rattle.cad_map.specs.Valid.{LiesOnlyAsEnd}
use Rattle.cad_valid.proofs.CallerLemmas.{lies-by}
use Rattle.cad_near.proofs.RowsByNumber.{of_point}
use Rattle.cad_near.proofs.strings.bears_if_there.Goals as goal

pub returns-in-Some : goal.returns-in-Some
returns-in-Some g c =
    let m = g.M.MapView.map c.args.map.now in
    let lies = lies-by m c.in-Some.row.now c.args.string.now c.lies_only_as_end.result _ _ c.placed_point.ensures c.requires.here c.lies_only_as_end.ensures in
    of_point m c.requires.rows.v1 (λ p. LiesOnlyAsEnd m p c.args.string.now) c.args.point c.in-Some.row.now (sym c.in-Some.ensures) c.lies_only_as_end.result lies
