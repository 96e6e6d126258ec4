use Rattle.std.proofs.Common.{◌≡◌, ◌+ℤ◌, ◌-ℤ◌, ◌∙◌}
use Rattle.geo_exact.specs.Measure.{doubled_area}
use Rattle.cad_laws.specs.Areas.{bend_at}
use Rattle.edit_records.proofs.AreaNumbers.{bend-small, opposite-small, opposite-value}
use Rattle.edit_records.proofs.AreaSides.{holds-straightened}
use Rattle.edit_records.proofs.areas.straighten.Goals as goal

pub add_beside-requires-clause-small : goal.add_beside-requires-clause-small
add_beside-requires-clause-small g c =
    let by = c.area_of_bend-by.result in
    opposite-small by (bend-small by c.area_of_bend-by.ensures.small)

pub returns : goal.returns
returns g c straight goes held =
    let m = g.M.MapView.map c.args.map.now in
    let a = c.args in
    let one = c.position.ensures in
    let mid = c.position-2.ensures in
    let other = c.position-3.ensures in
    let is : c.area_of_bend-by.result ≡ bend_at m a.p a.a a.b =
    c.area_of_bend-by.ensures.value
    ∙ (λ i. doubled_area (one i) (mid i) +ℤ doubled_area (mid i) (other i)
    -ℤ doubled_area (one i) (other i)) in
    let by = c.area_of_bend-by.result in
    holds-straightened m straight a.p a.a a.b by _ a.areas.now c.add_beside.new.areas c.requires
    goes is (opposite-value by (bend-small by c.area_of_bend-by.ensures.small))
    c.add_beside.ensures held
