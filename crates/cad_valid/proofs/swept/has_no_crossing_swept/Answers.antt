use Rattle.std.proofs.Common.{List, length, map, ap, subst, ◌∙◌}
use Rattle.std.proofs.lemmas.Bool.{OnTrue_at, OnTrue_from, OnFalse_at, OnFalse_from}
use Rattle.std.proofs.lemmas.Result.{IfOk-weaker}
use Rattle.sweep.specs.declared.extent.Extent.{Extent}
use Rattle.sweep.specs.Extents.{AllThatOverlapPass, SomePairFails}
use Rattle.cad_valid.specs.declared.placed.Placed.{Placed}
use Rattle.cad_valid.specs.Boxes.{box_of}
use Rattle.cad_valid.specs.Swept.{passes_at, have_no_crossing}
use Rattle.cad_valid.proofs.SweptRules.{uncrossed-passed, uncrossed-failed}
use Rattle.cad_valid.proofs.swept.has_no_crossing_swept.Goals as goal

pub returns-clause-kept : goal.returns-clause-kept
returns-clause-kept c =
    let items = c.deref-2.ensures.value ∙ c.in_ok-items.ensures in
    let boxes = c.in_ok-boxes.ensures.boxes ∙ ap (map box_of) (c.deref.ensures.value ∙ c.in_ok-items.ensures) in
    IfOk-weaker c.are_uncrossed.result _ _ (λ answer passed. OnTrue_from answer _ (λ is.
    uncrossed-passed c.args.map.now c.requires (subst (λ (l : List Placed × List Extent). AllThatOverlapPass (passes_at have_no_crossing l.0) l.1) (λ k. (items k, boxes k)) (OnTrue_at is passed)))) c.are_uncrossed.ensures.passed

pub returns-clause-broken : goal.returns-clause-broken
returns-clause-broken c =
    let items = c.deref-2.ensures.value ∙ c.in_ok-items.ensures in
    let boxes = c.in_ok-boxes.ensures.boxes ∙ ap (map box_of) (c.deref.ensures.value ∙ c.in_ok-items.ensures) in
    IfOk-weaker c.are_uncrossed.result _ _ (λ answer failed. OnFalse_from answer _ (λ is.
    uncrossed-failed c.args.map.now c.requires (subst (λ (l : List Placed × List Extent). SomePairFails (passes_at have_no_crossing l.0) (length l.1)) (λ k. (items k, boxes k)) (OnFalse_at is failed)))) c.are_uncrossed.ensures.failed
