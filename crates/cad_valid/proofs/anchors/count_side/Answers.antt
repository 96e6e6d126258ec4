use Rattle.std.proofs.Common.{◌∙◌, sym, ap, set, arith}
use Rattle.std.proofs.lemmas.List.Edits.{map_over_more}
use Rattle.cad_valid.specs.Anchors.{with_one_more}
use Rattle.cad_valid.specs.declared.anchors.Anchor.{Anchor}
use Rattle.cad_valid.proofs.AnchorFacts.{Reaches, none-before, none-after}
use Rattle.cad_valid.proofs.anchors.count_side.Goals as goal
use Rattle.cad_valid.proofs.anchors.count_side.Goals.{After-max}

-- the heights of the ends, and the lower and the higher of them
reaches : (c : After-max) → Reaches c.args.a c.args.b c.height_at-ay.result c.height_at-by.result c.min.result c.max.result
reaches c = record { from = c.height_at-ay.ensures.moved; to = c.height_at-by.ensures.moved; lower = c.min.ensures; higher = c.max.ensures }

pub loop-place-init : goal.loop-place-init
loop-place-init c =
    none-before c.args.a c.args.b c.height_at-ay.result c.height_at-by.result c.min.result c.max.result (reaches (goal.at.loop-place-init c).After-max) c.args.anchors.now
    c.count_below-first.result c.count_below-first.ensures.below c.count_below-first.ensures.within

pub loop-place-preserved : goal.loop-place-preserved
loop-place-preserved c =
    let more = with_one_more (c.args.a, c.args.b) in
    let within = c.count_below-end.ensures.within in
    ap (λ (x : Anchor). set c.loop-place.anchors c.loop-place.place x) (c.with_side.ensures ∙ ap more (sym c.index-anchors-place.is))
    ∙ map_over_more more c.args.anchors.now c.loop-place.anchors c.loop-place.place c.index-anchors-place.result
    (omega (arith, within, c.loop-place-test.true)) c.loop-place.invariant c.index-anchors-place.is

pub returns : goal.returns
returns c =
    c.loop-place.invariant
    ∙ none-after c.args.a c.args.b c.height_at-ay.result c.height_at-by.result c.min.result c.max.result (reaches (goal.at.returns c).After-max) c.args.anchors.now
    c.count_below-end.result c.loop-place.place c.count_below-end.ensures.below c.loop-place-test.false
