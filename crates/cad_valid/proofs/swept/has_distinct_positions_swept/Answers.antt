use Rattle.std.proofs.Common.{List, ◌++◌, length, map, ap, subst, ◌∙◌}
use Rattle.std.specs.Bool.{OnTrue, OnFalse}
use Rattle.sweep.specs.declared.extent.Extent.{Extent}
use Rattle.sweep.specs.Extents.{AllThatOverlapPass, SomePairFails}
use Rattle.cad_valid.specs.declared.placed.Placed.{Placed}
use Rattle.cad_valid.specs.Boxes.{box_of}
use Rattle.cad_valid.specs.Swept.{passes_at, lie_apart, placed_points}
use Rattle.cad_valid.proofs.SweptRules.{distinct-answer}
use Rattle.cad_valid.proofs.swept.has_distinct_positions_swept.Goals as goal

pub returns : goal.returns
returns c =
    let m = c.args.map.now in
    let put = c.in_ok-put_points.ensures ∙ ap (λ (l : List Placed). l ++ placed_points m) c.in_ok-points.ensures.items in
    let points = c.deref-2.ensures.value ∙ put in
    let boxes = c.deref-4.ensures.value ∙ c.in_ok-boxes.ensures.boxes ∙ ap (map box_of) (c.deref.ensures.value ∙ put) in
    let answer = c.in_ok-all_that_overlap_pass.field-0 in
    let passed = subst (λ (l : List Placed × List Extent). OnTrue answer (AllThatOverlapPass (passes_at lie_apart l.0) l.1)) (λ k. (points k, boxes k)) c.in_ok-all_that_overlap_pass.ensures.passed in
    let failed = subst (λ (l : List Placed × List Extent). OnFalse answer (SomePairFails (passes_at lie_apart l.0) (length l.1))) (λ k. (points k, boxes k)) c.in_ok-all_that_overlap_pass.ensures.failed in
    distinct-answer m.points answer passed failed
