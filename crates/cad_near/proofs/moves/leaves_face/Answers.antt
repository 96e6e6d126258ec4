use Rattle.cad_near.proofs.LeftFaces.{outlines-left, holes-left}
use Rattle.cad_near.proofs.moves.leaves_face.Goals as goal

pub returns-in-Some : goal.returns-in-Some
returns-in-Some g c =
    let from = rw c.in-Some.is at c.requires.moved in
    record {
      outlines = λ seen. outlines-left (g.M.MapView.map c.args.map.now) c.in-Some.moved.now from c.requires.whole c.args.face.now (c.leaves_rings.ensures seen);
      holes = λ seen. holes-left (g.M.MapView.map c.args.map.now) c.in-Some.moved.now from c.requires.whole c.args.face.now (c.leaves_rings.ensures seen);
    }
