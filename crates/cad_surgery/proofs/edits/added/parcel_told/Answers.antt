use Rattle.std.proofs.Common.{◌∙◌, sym}
use Rattle.edit_records.specs.declared.record.SmallRecord.TheVariants.{Divide, Enclose}
use Rattle.cad_surgery.proofs.edits.added.parcel_told.Goals as goal

pub returns-in-Divide : goal.returns-in-Divide
returns-in-Divide c =
    let it = c.in-Divide in
    let d = c.new_parcel.ensures in (
      it.moved,
      sym c.as_slice.ensures.value,
      it.is ∙ sym (λ i. Divide (d.face i) (d.points i) (d.strings i) (d.parcel i) (d.label i) (d.source i) it.start it.end it.moved),
    )

pub returns-in-Enclose : goal.returns-in-Enclose
returns-in-Enclose c =
    let it = c.in-Enclose in
    let d = c.new_parcel-in-Enclose.ensures in (
      it.moved,
      sym c.as_slice-in-Enclose.ensures.value,
      it.is ∙ sym (λ i. Enclose (d.face i) (d.points i) (d.strings i) (d.parcel i) (d.label i) (d.source i) it.moved),
    )
