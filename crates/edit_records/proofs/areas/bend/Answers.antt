use Rattle.std.proofs.Common.{◌∙◌}
use Rattle.edit_records.proofs.AreaNumbers.{bend-small, read-value}
use Rattle.edit_records.proofs.AreaSides.{bend-placed, holds-bent}
use Rattle.edit_records.proofs.areas.bend.Goals as goal

pub returns : goal.returns
returns g c bent n whole goes apart lies held =
    let m = g.M.MapView.map c.args.map.now in
    let a = c.args in
    let is =
    bend-placed bent m n a.a a.b c.position.result a.p c.position-2.result
    c.area_of_bend-by.result goes lies c.position.ensures c.position-2.ensures c.area_of_bend-by.ensures.value in
    let by = c.area_of_bend-by.result in
    let read = read-value by (bend-small by c.area_of_bend-by.ensures.small) in
    holds-bent bent m n a.a a.b _ a.areas.now c.add_beside.new.areas whole goes apart (read ∙ is)
    c.add_beside.ensures held
