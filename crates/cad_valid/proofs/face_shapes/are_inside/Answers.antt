use Rattle.std.proofs.Common.{◌∙◌, sym, ap}
use Rattle.std.specs.List.{list_all}
use Rattle.std.proofs.lemmas.Option.{slice_get-get_or}
use Rattle.geo_exact.specs.Inside.{is_inside}
use Rattle.cad_valid.specs.Shapes.{Shape}
use Rattle.cad_valid.proofs.Tests.{all-stops, all-goes, all-done, all-turned}
use Rattle.cad_valid.proofs.face_shapes.are_inside.Goals as goal

pub returns-then-not-branch : goal.returns-then-not-branch
returns-then-not-branch c =
    let inside = λ (outline : Shape) (hole : Shape). is_inside outline.sides hole.anchor in
    let holes = c.args.holes.now in
    let outlines = c.args.outlines.now in
    let all = λ (outline : Shape). list_all (inside outline) holes in
    let there = slice_get-get_or outlines c.loop-outline.outline-index c.outline-item.result c.loop-outline-test.true in
    let fails = ap all (sym c.outline-item.is) ∙ sym c.in_ok-are_inside_one.ensures ∙ c.if-not-branch.true in
    sym (sym (all-turned inside outlines holes) ∙ c.loop-outline.invariant ∙ all-stops all outlines c.loop-outline.outline-index _ there fails)

pub loop-outline-preserved : goal.loop-outline-preserved
loop-outline-preserved c =
    let holes = c.args.holes.now in
    let outlines = c.args.outlines.now in
    let all = λ (outline : Shape). list_all (λ (hole : Shape). is_inside outline.sides hole.anchor) holes in
    let there = slice_get-get_or outlines c.loop-outline.outline-index c.outline-item.result c.loop-outline-test.true in
    let passes = ap all (sym c.outline-item.is) ∙ sym c.in_ok-are_inside_one.ensures ∙ c.if-not-branch.false in
    c.loop-outline.invariant ∙ all-goes all outlines c.loop-outline.outline-index _ there passes

pub returns : goal.returns
returns c =
    let inside = λ (outline : Shape) (hole : Shape). is_inside outline.sides hole.anchor in
    let holes = c.args.holes.now in
    let outlines = c.args.outlines.now in
    let all = λ (outline : Shape). list_all (inside outline) holes in
    sym (sym (all-turned inside outlines holes) ∙ c.loop-outline.invariant ∙ all-done all outlines c.loop-outline.outline-index c.loop-outline-test.false)
