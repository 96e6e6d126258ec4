use Rattle.std.proofs.Common.{subst}
use Rattle.cad_near.specs.KeptAreas.{Gains}
use Rattle.edit_records.proofs.AreaNumbers.{read-value}
use Rattle.edit_records.proofs.AreaSides.{no_side-gains, side-gains}
use Rattle.edit_records.proofs.areas.add_at_side.Goals as goal

pub returns-in-Some : goal.returns-in-Some
returns-in-Some g c =
    let m = g.M.MapView.map c.args.map.now in
    let a = c.args in
    side-gains m c.requires.whole a.areas.now c.add.new.self c.in-Some.face (a.from, a.to) a.by
    c.in-Some.ensures.some
    (subst (Gains a.areas.now c.add.new.self c.in-Some.face) (read-value a.by c.requires.small)
    c.add.ensures.here)
    c.add.ensures.elsewhere

pub returns-in_default : goal.returns-in_default
returns-in_default g c =
    let m = g.M.MapView.map c.args.map.now in
    let a = c.args in
    no_side-gains m a.areas.now (a.from, a.to) a.by c.in_default.ensures.none
