use Rattle.std.proofs.Common.{subst}
use Rattle.cad_map.specs.Touched.{Joined}
use Rattle.cad_near.specs.Joins.{TurnsAlong}
use Rattle.cad_near.proofs.joins.leaves_rings.Goals as goal

pub returns-then-turns_if_of_face : goal.returns-then-turns_if_of_face
returns-then-turns_if_of_face g c = λ turned.
    let m = g.M.MapView.map c.args.map.now in
    let j = c.args.joined.now in
    record {
      forth = subst (λ (k : Joined). TurnsAlong m c.args.face.now j (k.first, k.second)) c.joined.view_is (c.turns_if_of_face.ensures c.if-turns_if_of_face.true);
      back = subst (λ (k : Joined). TurnsAlong m c.args.face.now j (k.second, k.first)) c.joined.view_is (c.turns_if_of_face-then-turns_if_of_face.ensures turned);
      points = c.is_seen_alike.ensures c.if-not-is_seen_alike.false;
    }
