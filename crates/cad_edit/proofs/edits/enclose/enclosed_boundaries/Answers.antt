use Rattle.std.proofs.Common.{◌≡◌, ap, ◌∙◌, List, [], ◌∷◌, ◌++◌, map, reverse}
use Rattle.cad_rows.specs.declared.names.Face.TheVariants.{Parcel}
use Rattle.cad_map.specs.declared.boundary.Boundary.{Boundary}
use Rattle.cad_map.specs.Boundaries.{bounding, canonical_order}
use Rattle.cad_map.specs.Division.{hole_placed}
use Rattle.cad_edit.proofs.CutRing.{canonical_order-last_two}
use Rattle.cad_edit.proofs.edits.enclose.enclosed_boundaries.Goals as goal

pub returns : goal.returns
returns c =
    let m = c.args.map.now in
    let inner = bounding (Parcel c.args.new) c.in_ok-ring.ring in
    let outer = bounding c.args.face c.in_ok-reversed.reversed in
    let others = map (hole_placed m c.args.face (Parcel c.args.new) c.in_ok-ring.ring) m.boundaries in
    let back : c.in_ok-reversed.reversed ≡ reverse c.args.points.now = c.in_ok-reversed.ensures ∙ ap reverse c.in_ok-ring.ensures in
    let items : c.push-2.new.self.items ≡ (others ++ inner ∷ []) ++ outer ∷ [] =
    c.in_ok-push-2.ensures.items ∙ ap (λ (l : List Boundary). l ++ outer ∷ []) (c.in_ok-push.ensures.items ∙ ap (λ (l : List Boundary). l ++ inner ∷ []) c.in_ok-made.ensures) in
    ap canonical_order items ∙ canonical_order-last_two others inner outer
    ∙ (λ i. canonical_order (bounding (Parcel c.args.new) (c.in_ok-ring.ensures i) ∷ bounding c.args.face (back i) ∷ map (hole_placed m c.args.face (Parcel c.args.new) (c.in_ok-ring.ensures i)) m.boundaries))
