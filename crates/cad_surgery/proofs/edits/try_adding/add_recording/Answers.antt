use Rattle.std.proofs.Common.{◌∙◌, ap, sym, subst, List}
use Rattle.half_table.specs.declared.half.Half.{Half}
use Rattle.edit_records.specs.Record.{edit_of, Holds}
use Rattle.edit_records.specs.declared.record.SmallRecord.{SmallRecord}
use Rattle.map_parts.specs.Parts.{FitTogether, map_of}
use Rattle.cad_surgery.specs.declared.edits.merging.Way.{Way}
use Rattle.cad_surgery.specs.NewParcels.{Comes, edit_by}
use Rattle.cad_surgery.specs.Trials.{IsReadyFor}
use Rattle.cad_surgery.proofs.ComingParcels.{added-edit, added-holds, held-so, played-as}
use Rattle.cad_surgery.proofs.Trials.{passes-on, played-with}
use Rattle.cad_surgery.proofs.edits.try_adding.add_recording.Goals as goal

pub add_within_rules-requires-clause-ready : goal.add_within_rules-requires-clause-ready
add_within_rules-requires-clause-ready g c =
    subst (λ (w : Way). IsReadyFor (edit_by w c.args.new.now) c.args.draft.now c.args.areas.now c.args.touched.now) (sym c.course_of-course.ensures.way) c.requires.ready

pub add_within_rules-requires-clause-comes : goal.add_within_rules-requires-clause-comes
add_within_rules-requires-clause-comes g c =
    let k = c.course_of-course.ensures in
    subst (λ (q : Way × List Half × List Half). Comes q.0 (map_of c.args.draft.now) c.args.draft.now.table.rows c.args.new.now c.args.coming.strings.items c.args.coming.parcel q.1 q.2)
    (λ i. (sym k.way i, sym k.path i, sym k.moved i)) c.requires.comes

pub returns-in_err-add_within_rules : goal.returns-in_err-add_within_rules
returns-in_err-add_within_rules g c =
    passes-on _ c.from_residual.ensures
    (played-as c.args.new.now c.course_of-course.ensures.way c.in_err-add_within_rules.ensures)

pub returns : goal.returns
returns g c =
    let d = c.args.draft.now in
    let lead = c.args.coming.lead in
    record {
      played = played-with (played-as c.args.new.now c.course_of-course.ensures.way c.in_ok-add_within_rules.ensures);
      edit = ap edit_of c.record_of_parcel.ensures ∙ added-edit lead.way c.args.new.now lead.moved;
      holds = subst (λ (r : SmallRecord). Holds r (map_of d)) (sym c.record_of_parcel.ensures) (added-holds lead.way c.args.new.now lead.moved (map_of d)
          (held-so d (subst FitTogether c.draft.view_is c.draft.invariant) c.requires.ready.proper c.args.new.now lead.way c.requires.ready.tried c.args.coming.strings.items c.args.coming.parcel lead.path.items lead.moved.items c.requires.comes));
    }
