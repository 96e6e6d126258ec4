use Rattle.std.proofs.Common.{◌≡◌, sym, ap, subst, ◌∙◌, List, [], ◌∷◌, ◌++◌, map, filter, not}
use Rattle.std.specs.Prelude.{IsTrue}
use Rattle.cad_rows.specs.declared.names.Face.TheVariants.{Parcel}
use Rattle.cad_rings.specs.Cycle.{Ring, has_side, sides_of}
use Rattle.cad_map.specs.declared.boundary.Boundary.{Boundary}
use Rattle.cad_map.specs.Boundaries.{bounding, canonical_order}
use Rattle.cad_map.specs.Chain.{leaving}
use Rattle.cad_map.specs.Division.{ring_with, hole_placed}
use Rattle.cad_edit.specs.Cut.{left_of, right_of}
use Rattle.cad_edit.proofs.CutRing.{one-ring, canonical_order-last_two}
use Rattle.cad_edit.proofs.edits.divide.divided_boundaries.Goals as goal

pub cut_along-requires-clause-first_there : goal.cut_along-requires-clause-first_there
cut_along-requires-clause-first_there c =
    let s = leaving c.args.first.now in
    let own = one-ring c.args.map.now c.requires.whole c.args.face c.args.first.now c.args.last.now c.requires.one_ring in
    subst (λ (bs : List Boundary). IsTrue (has_side s (sides_of (ring_with s bs)))) (sym c.boundaries.ensures) (subst (λ (r : Ring). IsTrue (has_side s (sides_of r))) (sym own.2) own.3)

pub cut_along-requires-clause-last_there : goal.cut_along-requires-clause-last_there
cut_along-requires-clause-last_there c =
    let s = leaving c.args.first.now in
    let t = leaving c.args.last.now in
    let own = one-ring c.args.map.now c.requires.whole c.args.face c.args.first.now c.args.last.now c.requires.one_ring in
    subst (λ (bs : List Boundary). IsTrue (has_side t (sides_of (ring_with s bs)))) (sym c.boundaries.ensures) (subst (λ (r : Ring). IsTrue (has_side t (sides_of r))) (sym own.2) own.4)

pub returns : goal.returns
returns c =
    let m = c.args.map.now in
    let parcel = Parcel c.args.new in
    let left : c.in_ok-left.left ≡ left_of m.boundaries c.args.chain.now c.args.first.now c.args.last.now =
    c.in_ok-left.ensures.left ∙ ap (λ (bs : List Boundary). left_of bs c.args.chain.now c.args.first.now c.args.last.now) c.boundaries.ensures in
    let right : c.in_ok-left.right ≡ right_of m.boundaries c.args.chain.now c.args.first.now c.args.last.now =
    c.in_ok-left.ensures.right ∙ ap (λ (bs : List Boundary). right_of bs c.args.chain.now c.args.first.now c.args.last.now) c.boundaries.ensures in
    let one = bounding parcel c.in_ok-left.left in
    let other = bounding c.args.face c.in_ok-left.right in
    let kept = filter (λ (b : Boundary). not (has_side (leaving c.args.first.now) (sides_of b.ring))) m.boundaries in
    let others = map (hole_placed m c.args.face parcel c.in_ok-left.left) kept in
    let items : c.push-2.new.self.items ≡ (others ++ one ∷ []) ++ other ∷ [] =
    c.in_ok-push-2.ensures.items ∙ ap (λ (l : List Boundary). l ++ other ∷ []) (c.in_ok-push.ensures.items ∙ ap (λ (l : List Boundary). l ++ one ∷ []) c.in_ok-made.ensures) in
    ap canonical_order items ∙ canonical_order-last_two others one other
    ∙ (λ i. canonical_order (bounding parcel (left i) ∷ bounding c.args.face (right i) ∷ map (hole_placed m c.args.face parcel (left i)) kept))
