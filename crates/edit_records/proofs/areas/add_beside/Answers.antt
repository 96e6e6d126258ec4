use Rattle.std.proofs.Common.{◌-ℤ◌, ◌∙◌, ℤ, neg_ℤ, ap, subst, sym}
use Rattle.cad_laws.specs.Areas.{if_beside}
use Rattle.cad_near.specs.KeptAreas.{Gains}
use Rattle.edit_records.proofs.AreaNumbers.{opposite-value, read-value}
use Rattle.edit_records.proofs.AreaSides.{sides-gain}
use Rattle.edit_records.proofs.areas.add_beside.Goals as goal

pub returns : goal.returns
returns g c f =
    let m = g.M.MapView.map c.args.map.now in
    let a = c.args in
    let old = a.areas.now in
    let mid = c.add_at_side.new.areas in
    let new = c.add_at_side-2.new.areas in
    let read = read-value a.by c.requires.small in
    let turned = opposite-value a.by c.requires.small ∙ ap neg_ℤ (sym read) in
    subst (λ (z : ℤ). Gains old new f
    (if_beside m f (a.from, a.to) z -ℤ if_beside m f (a.to, a.from) z)) read
    (sides-gain m old mid new f (a.from, a.to) (a.to, a.from) _ _ turned
    (c.add_at_side.ensures f) (c.add_at_side-2.ensures f))
