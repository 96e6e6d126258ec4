use Rattle.std.proofs.Common.{ap, ◌∙◌, [], ◌∷◌}
use Rattle.cad_map.specs.Map.{position_of}
use Rattle.cad_map.specs.Touched.{Joined}
use Rattle.cad_near.proofs.JoinedFaces.{sees-alike}
use Rattle.cad_near.proofs.joins.is_seen_alike.Goals as goal

pub returns : goal.returns
returns g c = λ t p h other.
    let m = g.M.MapView.map c.args.map.now in
    let is = c.joined.view_is in
    let first = c.position.result in
    let second = c.position-2.result in
    sees-alike m c.args.joined.now p.position c.joined.inside.position first second _
    (λ i. record { far = (is i).first; position = first } ∷ record { far = (is i).second; position = second } ∷ [])
    (ap (λ (j : Joined). j.position) is)
    (c.position.ensures ∙ ap (λ (j : Joined). position_of m j.first) is)
    (c.position-2.ensures ∙ ap (λ (j : Joined). position_of m j.second) is)
    (c.go_past_alike.ensures t p.number p.position (c.requires.held.points p h) (λ same. other (same ∙ ap (λ (j : Joined). j.point) is)))
