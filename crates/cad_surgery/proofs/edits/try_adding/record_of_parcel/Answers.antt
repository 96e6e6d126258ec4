use Rattle.std.proofs.Common.{◌∙◌, ap, sym}
use Rattle.cad_surgery.specs.declared.edits.merging.Way.{Way}
use Rattle.cad_surgery.specs.AddedParcels.{added_record}
use Rattle.edit_records.specs.declared.record.SmallRecord.TheVariants.{Divide, Enclose}
use Rattle.cad_surgery.proofs.edits.try_adding.record_of_parcel.Goals as goal

pub returns-in-Along : goal.returns-in-Along
returns-in-Along c =
    let e = c.args.new.now in
    let lead = c.args.lead in
    (λ i. Divide e.face (c.requires i).points (c.requires i).strings e.parcel (c.requires i).label e.source c.in-Along.start c.in-Along.end lead.moved)
    ∙ ap (λ (w : Way). added_record w e lead.moved) (sym c.in-Along.is)

pub returns : goal.returns
returns c =
    let e = c.args.new.now in
    let lead = c.args.lead in
    (λ i. Enclose e.face (c.requires i).points (c.requires i).strings e.parcel (c.requires i).label e.source lead.moved)
    ∙ ap (λ (w : Way). added_record w e lead.moved) (sym c.in-Round.is)
