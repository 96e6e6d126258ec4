use Rattle.std.proofs.Common.{◌∙◌, List, ap, sym, subst}
use Rattle.cad_rows.specs.declared.edits.Edit.{Edit}
use Rattle.half_table.specs.declared.half.Half.{Half}
use Rattle.map_parts.specs.Parts.{map_of}
use Rattle.cad_laws.specs.Tried.{IsTried}
use Rattle.cad_surgery.specs.declared.edits.merging.Way.{Way}
use Rattle.cad_surgery.specs.NewParcels.{Comes, edit_by}
use Rattle.cad_surgery.specs.Trials.{IsMade}
use Rattle.cad_surgery.proofs.AddedBack.{by-record, same, told}
use Rattle.cad_surgery.proofs.Trials.{is-idle}
use Rattle.cad_surgery.proofs.edits.added.forward_added.Goals as goal

pub coming_again-requires-clause-tried : goal.coming_again-requires-clause-tried
coming_again-requires-clause-tried g c =
    (by-record c.args.change.now c.parcel_told-told.result c.parcel_told-told.ensures c.requires.given (map_of c.args.draft.now) c.requires.beside.made.0
    c.requires.beside.made.1).tried

pub coming_again-requires-clause-held : goal.coming_again-requires-clause-held
coming_again-requires-clause-held g c = told c.args.change.now c.parcel_told-told.result c.parcel_told-told.ensures (map_of c.args.draft.now) c.requires.beside.made.1.holds

pub returns-in_err-coming : goal.returns-in_err-coming
returns-in_err-coming g c = is-idle c.from_residual.ensures.0 c.requires.beside.proper

pub add_again-requires-clause-tried : goal.add_again-requires-clause-tried
add_again-requires-clause-tried g c =
    subst (IsTried (map_of c.args.draft.now)) (sym (ap (λ (w : Way). edit_by w c.parcel_told-told.result.new) c.course_of-course.ensures.way ∙ c.in_ok-coming.ensures.edit))
    (by-record c.args.change.now c.parcel_told-told.result c.parcel_told-told.ensures c.requires.given (map_of c.args.draft.now) c.requires.beside.made.0
    c.requires.beside.made.1).tried

pub add_again-requires-clause-comes : goal.add_again-requires-clause-comes
add_again-requires-clause-comes g c =
    let k = c.course_of-course.ensures in
    let coming = c.in_ok-coming.coming in
    subst (λ (q : Way × List Half × List Half). Comes q.0 (map_of c.args.draft.now) c.args.draft.now.table.rows c.parcel_told-told.result.new coming.strings.items coming.parcel q.1 q.2)
    (λ i. (sym k.way i, sym k.path i, sym k.moved i)) c.in_ok-coming.ensures.comes

pub returns : goal.returns
returns g c =
    subst (λ (e : Edit). IsMade e c.args.draft.now c.add_again.new.draft c.add_again.result)
    (ap (λ (w : Way). edit_by w c.parcel_told-told.result.new) c.course_of-course.ensures.way ∙ c.in_ok-coming.ensures.edit ∙ sym (same c.args.change.now c.parcel_told-told.result c.parcel_told-told.ensures)) c.add_again.ensures
