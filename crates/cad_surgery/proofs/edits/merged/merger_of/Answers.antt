use Rattle.std.proofs.Common.{◌∙◌, sym}
use Rattle.edit_records.specs.declared.record.SmallRecord.TheVariants.{MergeAlong, MergeIsland}
use Rattle.cad_surgery.proofs.edits.merged.merger_of.Goals as goal

pub returns-in-MergeAlong : goal.returns-in-MergeAlong
returns-in-MergeAlong c =
    let it = c.in-MergeAlong in (
      it.strings,
      it.moved,
      sym c.as_slice-in-MergeAlong.ensures.value,
      sym c.as_slice-in-MergeAlong-2.ensures.value,
      it.is ∙ (λ i. MergeAlong it.kept it.row it.place (sym c.as_slice.ensures i) it.strings it.start it.end it.moved),
    )

pub returns-in-MergeIsland : goal.returns-in-MergeIsland
returns-in-MergeIsland c =
    let it = c.in-MergeIsland in (
      it.strings,
      it.moved,
      sym c.as_slice-in-MergeIsland-2.ensures.value,
      sym c.as_slice-in-MergeIsland-3.ensures.value,
      it.is ∙ (λ i. MergeIsland it.kept it.row it.place (sym c.as_slice-in-MergeIsland.ensures i) it.strings it.moved),
    )
