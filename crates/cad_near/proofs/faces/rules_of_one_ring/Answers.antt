use Rattle.std.proofs.Common.{[], arith, to_z-of_z, FitsSigned}
use Rattle.std.specs.Int.{w128}
use Rattle.std.proofs.lemmas.Int.{ints}
use Rattle.cad_near.proofs.AreasKept.{rules-alone}
use Rattle.cad_near.proofs.faces.rules_of_one_ring.Goals as goal

pub returns : goal.returns
returns c = λ m one is.
    let fits : FitsSigned w128 c.args.area = omega (arith, ints) in
    let added = simp to_z-of_z at c.add.ensures in
    let wanted = c.outlines_wanted in
    rules-alone m c.args.face.now c.args.area c.add.new.self wanted.result c.is.result one is
    (added [] c.none-outlines.ensures) wanted.ensures c.is.ensures
