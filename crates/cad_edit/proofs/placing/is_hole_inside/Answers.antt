use Rattle.std.proofs.Common.{arith}
use Rattle.cad_rings.proofs.CallerLemmas.{length-sides_of}
use Rattle.cad_edit.proofs.SidesGiven.{sides-few}
use Rattle.cad_edit.proofs.placing.is_hole_inside.Goals as goal

pub sum_round-requires : goal.sum_round-requires
sum_round-requires c =
    let few = sides-few c.args.map.now c.requires.whole c.args.boundary.now c.requires.there in
    let long = length-sides_of c.args.boundary.now.ring in
    omega (arith, few, long)
