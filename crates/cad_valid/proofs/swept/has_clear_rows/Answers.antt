use Rattle.std.proofs.Common.{List, map, ap, subst, ◌∙◌}
use Rattle.std.specs.Bool.{OnTrue}
use Rattle.std.proofs.lemmas.Bool.{OnTrue_at, OnTrue_from}
use Rattle.sweep.specs.declared.extent.Extent.{Extent}
use Rattle.sweep.specs.Extents.{AllThatOverlapPass}
use Rattle.cad_valid.specs.declared.placed.Placed.{Placed}
use Rattle.cad_valid.specs.Boxes.{box_of}
use Rattle.cad_valid.specs.Swept.{passes_at, are_clear}
use Rattle.cad_valid.proofs.SweptRules.{clear-distinct, clear-passed}
use Rattle.cad_valid.proofs.swept.has_clear_rows.Goals as goal

pub returns : goal.returns
returns c =
    let m = c.args.map.now in
    let items = c.deref-2.ensures.value ∙ c.in_ok-items.ensures in
    let boxes = c.deref-4.ensures.value ∙ c.in_ok-boxes.ensures.boxes ∙ ap (map box_of) (c.deref.ensures.value ∙ c.in_ok-items.ensures) in
    let answer = c.in_ok-all_that_overlap_pass.field-0 in
    let passed = subst (λ (l : List Placed × List Extent). OnTrue answer (AllThatOverlapPass (passes_at are_clear l.0) l.1)) (λ k. (items k, boxes k)) c.in_ok-all_that_overlap_pass.ensures.passed in
    record {
      apart = OnTrue_from answer _ (λ is. clear-distinct m c.requires.sound c.requires.ends (OnTrue_at is passed));
      uncrossed = OnTrue_from answer _ (λ is. clear-passed m c.requires.sound c.requires.ends (OnTrue_at is passed));
    }
