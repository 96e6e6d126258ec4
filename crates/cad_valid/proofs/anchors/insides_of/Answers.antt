use Rattle.std.proofs.Common.{◌≡◌, ◌+◌, ◌++◌, ◌∙◌, sym, ap, subst, List, [], ◌∷◌, take, map}
use Rattle.std.proofs.lemmas.List.{take_more, take_all}
use Rattle.std.proofs.lemmas.Result.{IfOk-weaker}
use Rattle.geo_exact.specs.Position.{Position}
use Rattle.geo_exact.specs.Inside.{is_inside}
use Rattle.cad_valid.specs.Anchors.{with_one_more}
use Rattle.cad_valid.specs.declared.anchors.Anchor.{Anchor}
use Rattle.cad_valid.proofs.AnchorFacts.{AreCounted, counted-more, counted-back}
use Rattle.cad_valid.proofs.anchors.insides_of.Goals as goal

pub loop-a-preserved : goal.loop-a-preserved
loop-a-preserved c =
    let positions = c.args.positions.now in
    let sides : List (Position × Position) = c.args.sides.now in
    let i = c.loop-a.a-index in
    let side : Position × Position = c.loop-a-item.result in
    let grown : take i sides ++ side ∷ [] ≡ take (i + 1) sides =
    sym (take_more sides i side c.loop-a-test.true ∙ ap (λ (s : Position × Position). take i sides ++ s ∷ []) (sym c.loop-a-item.is)) in
    subst (AreCounted positions (take (i + 1) sides)) (sym c.count_side.ensures)
    (subst (λ (l : List (Position × Position)). AreCounted positions l (map (with_one_more side) c.loop-a.anchors)) grown
    (counted-more positions (take i sides) side c.loop-a.anchors c.loop-a.invariant))

pub returns : goal.returns
returns c =
    let positions : List Position = c.args.positions.now in
    let sides : List (Position × Position) = c.args.sides.now in
    let all : take c.loop-a.a-index sides ≡ sides = take_all c.loop-a.a-index sides c.loop-a-test.false in
    let back : map (λ (a : Anchor). a.inside) c.sort_back.new.anchors ≡ map (is_inside sides) positions =
    counted-back positions sides c.loop-a.anchors c.sort_back.new.anchors
    (subst (λ (l : List (Position × Position)). AreCounted positions l c.loop-a.anchors) all c.loop-a.invariant)
    c.sort_back.ensures.same c.sort_back.ensures.rise in
    IfOk-weaker c.flags_of.result (λ flags. flags.items ≡ map (λ (a : Anchor). a.inside) c.sort_back.new.anchors)
    (λ each. each.items ≡ map (is_inside sides) positions) (λ flags is. is ∙ back) c.flags_of.ensures
