use Rattle.cad_near.proofs.LeftFaces.{outlines-joined, holes-joined}
use Rattle.cad_near.proofs.joins.joins_face.Goals as goal

pub returns-in-Some : goal.returns-in-Some
returns-in-Some g c =
    let from = rw c.in-Some.is at c.requires.joined in
    record {
      outlines = λ seen. outlines-joined (g.M.MapView.map c.args.map.now) c.in-Some.joined.now from c.requires.whole c.args.face.now (c.leaves_rings.ensures seen);
      holes = λ seen. holes-joined (g.M.MapView.map c.args.map.now) c.in-Some.joined.now from c.requires.whole c.args.face.now (c.leaves_rings.ensures seen);
    }
