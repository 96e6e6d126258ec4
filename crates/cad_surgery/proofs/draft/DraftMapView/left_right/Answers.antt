use Rattle.std.proofs.Common.{rules, subst}
use Rattle.cad_map.specs.Views.{HasFaces}
use Rattle.map_parts.specs.Parts.{Parts, map_of}
use Rattle.cad_surgery.proofs.PartsStars.{string-faces, found-there, found-back}
use Rattle.cad_surgery.proofs.draft.DraftMapView.left_right.Goals as goal

pub face-requires : goal.face-requires
face-requires g c = found-there _ c.self.invariant c.args.no c.in_ok-row.row.now (search rules)

pub face-requires-2 : goal.face-requires-2
face-requires-2 g c = found-back _ c.self.invariant c.args.no c.in_ok-row.row.now (search rules)

pub returns-clause-some : goal.returns-clause-some
returns-clause-some g c =
    subst (λ (d : Parts). HasFaces (map_of d) c.args.no c.face.result c.face-2.result) c.self.view_is
    (rw (c.face.ensures, c.face-2.ensures) (string-faces _ c.self.invariant c.args.no c.in_ok-row.row.now (search rules)))
