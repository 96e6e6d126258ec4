use Rattle.std.proofs.Common.{◌≡◌, ◌+◌, ◌∙◌, sym, ap, subst, List, ◌∷◌, [], ◌++◌, take}
use Rattle.std.proofs.lemmas.List.{take_all, take_more}
use Rattle.cad_rings.specs.Cycle.{Ring}
use Rattle.cad_views.specs.Cut.{AreCutFrom, HasTwoEndsEach}
use Rattle.cad_views.proofs.CutFacts.{cut-none, cut-both}
use Rattle.cad_views.proofs.ShapeFacts.{apart-ring}
use Rattle.cad_views.proofs.cut.cut_each.Goals as goal

pub loop-place-init : goal.loop-place-init
loop-place-init c = rw c.new-pieces.ensures.items cut-none

pub cut_ring-requires : goal.cut_ring-requires
cut_ring-requires c =
    let r = c.index-rings-place.result in
    subst HasTwoEndsEach (sym c.index-rings-place.is) (apart-ring c.args.rings.now c.loop-place.place r c.loop-place-test.true c.requires)

pub loop-place-preserved : goal.loop-place-preserved
loop-place-preserved c =
    let rings = c.args.rings.now in
    let place = c.loop-place.place in
    let r = c.index-rings-place.result in
    let more : take (place + 1) rings ≡ take place rings ++ r ∷ [] = take_more rings place r c.loop-place-test.true ∙ ap (λ (q : Ring). take place rings ++ q ∷ []) (sym c.index-rings-place.is) in
    let here = cut-both (take place rings) (r ∷ []) c.loop-place.pieces.items c.in_ok-cut.cut.items c.loop-place.invariant c.in_ok-cut.ensures in
    rw c.in_ok-append.ensures.items (subst (λ (rs : List Ring). AreCutFrom rs (c.loop-place.pieces.items ++ c.in_ok-cut.cut.items)) (sym more) here)

pub returns : goal.returns
returns c = subst (λ (rs : List Ring). AreCutFrom rs c.loop-place.pieces.items) (take_all c.loop-place.place c.args.rings.now c.loop-place-test.false) c.loop-place.invariant
