use Rattle.std.proofs.Common.{refl, sym, subst}
use Rattle.std.specs.Prelude.{IsSome}
use Rattle.cad_rings.specs.Cycle.{Side, opposite}
use Rattle.cad_edit.proofs.CutRing.{told-place}
use Rattle.cad_edit.proofs.edits.merge.joined_rings.Goals as goal

pub unwrap-start-requires : goal.unwrap-start-requires
unwrap-start-requires c =
    let s : Side = c.in-Along.first in
    let have = rw c.in-Along.is at c.requires in
    subst IsSome (sym (told-place s s c.args.kept.now c.args.kept.now refl refl have.has_first c.place_of.result c.place_of.ensures)) refl

pub unwrap-end-requires : goal.unwrap-end-requires
unwrap-end-requires c =
    let t : Side = opposite c.in-Along.last in
    let have = rw c.in-Along.is at c.requires in
    subst IsSome (sym (told-place t t c.args.ended.now c.args.ended.now refl refl have.has_back c.place_of-in-Along.result c.place_of-in-Along.ensures)) refl
