use Rattle.std.proofs.Common.{◌≡◌, ◌<◌, ◌∙◌, sym, subst, List, ◌∷◌, [], ◌++◌, take, map, length, get_or}
use Rattle.std.specs.List.{AllByRecursion}
use Rattle.std.proofs.lemmas.List.{take_all, length-map}
use Rattle.cad_rings.specs.Cycle.{Ring}
use Rattle.cad_map.specs.declared.boundary.Boundary.{Boundary}
use Rattle.cad_views.specs.Cut.{AreCutFrom, HasTwoEndsEach}
use Rattle.cad_views.proofs.CutFacts.{cut-none, cut-both, rings-apart, rings-more, apart-at}
use Rattle.cad_views.proofs.cut.cut_rings.Goals as goal

pub loop-place-init : goal.loop-place-init
loop-place-init c = rw c.new-pieces.ensures.items cut-none

pub cut_ring-requires : goal.cut_ring-requires
cut_ring-requires c =
    let rings = c.run_of-rings.result.now in
    let apart = subst (λ (rs : List Ring). AllByRecursion HasTwoEndsEach rs) (sym c.run_of-rings.ensures) (rings-apart c.args.map.now c.requires c.args.face) in
    apart-at rings c.loop-place.place c.index-rings-place.result c.loop-place-test.true apart

pub loop-place-preserved : goal.loop-place-preserved
loop-place-preserved c =
    let rings = c.run_of-rings.result.now in
    let place = c.loop-place.place in
    let within : place < length rings = c.loop-place-test.true in
    let b = c.index-rings-place.result in
    let before = take place (map (λ (b : Boundary). b.ring) rings) in
    let here = cut-both before ((get_or rings place b).ring ∷ []) c.loop-place.pieces.items c.in_ok-cut.cut.items c.loop-place.invariant c.in_ok-cut.ensures in
    rw (c.in_ok-append.ensures.items) (subst (λ (rs : List Ring). AreCutFrom rs (c.loop-place.pieces.items ++ c.in_ok-cut.cut.items)) (sym (rings-more rings place b within)) here)

pub returns : goal.returns
returns c =
    let rings = map (λ (b : Boundary). b.ring) c.run_of-rings.result.now in
    let all : take c.loop-place.place rings ≡ rings = take_all c.loop-place.place rings (let past = c.loop-place-test.false in simp length-map past) in
    subst (λ (rs : List Ring). AreCutFrom rs c.loop-place.pieces.items) (all ∙ c.run_of-rings.ensures) c.loop-place.invariant
