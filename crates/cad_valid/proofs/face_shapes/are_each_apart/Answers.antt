use Rattle.std.proofs.Common.{subst, List, length}
use Rattle.std.specs.Bool.{OnTrue, OnFalse}
use Rattle.sweep.specs.declared.extent.Extent.{Extent}
use Rattle.sweep.specs.Extents.{AllThatOverlapPass, SomePairFails}
use Rattle.cad_valid.specs.Shapes.{are_apart_at}
use Rattle.cad_valid.proofs.Sweeping.{apart-answered}
use Rattle.cad_valid.proofs.face_shapes.are_each_apart.Goals as goal

pub returns : goal.returns
returns c =
    let holes = c.args.holes.now in
    let b = c.in_ok-all_that_overlap_pass.field-0 in
    let same = c.as_slice-2.ensures.value in
    let said = c.in_ok-all_that_overlap_pass.ensures in
    apart-answered holes c.in_ok-extents.extents.items c.requires c.in_ok-extents.ensures.around b
    (subst (λ (l : List Extent). OnTrue b (AllThatOverlapPass (are_apart_at holes) l)) same said.passed)
    (subst (λ (l : List Extent). OnFalse b (SomePairFails (are_apart_at holes) (length l))) same said.failed)
