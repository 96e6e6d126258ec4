use Rattle.cad_surgery.proofs.FitParts.{together}
use Rattle.cad_surgery.proofs.ParcelsTried as new
use Rattle.cad_surgery.proofs.edits.adding.add_again.Goals as goal

pub begin_adding-requires : goal.begin_adding-requires
begin_adding-requires g c = (_, new.on c.draft.inside c.draft.view_is c.draft.invariant c.args.new.now c.args.course.now c.args.strings.items c.args.parcel c.requires.tried c.requires.proper c.requires.comes)

pub invariant_of-draft : goal.invariant_of-draft
invariant_of-draft g c =
    together c.draft.inside.grid (new.left c.draft.inside c.draft.view_is c.draft.invariant c.args.new.now c.args.course.now c.args.strings.items c.args.parcel c.requires.tried c.requires.proper c.requires.comes
    c.in_err-begin_adding.ensures)

pub returns-in_err-begin_adding : goal.returns-in_err-begin_adding
returns-in_err-begin_adding g c =
    new.left-made c.draft.inside c.draft.view_is c.draft.invariant c.args.new.now c.args.course.now c.args.strings.items c.args.parcel c.requires.tried c.requires.proper c.requires.comes
    c.in_err-begin_adding.ensures c.from_residual.ensures.0

pub invariant_of-draft-2 : goal.invariant_of-draft-2
invariant_of-draft-2 g c =
    together c.draft.inside.grid (new.gone-through c.draft.inside c.draft.view_is c.draft.invariant c.args.new.now c.args.course.now c.args.strings.items c.args.parcel c.requires.tried c.requires.proper c.requires.comes
    c.in_ok-begin_adding.ensures)

pub returns : goal.returns
returns g c = new.done c.draft.inside c.draft.view_is c.draft.invariant c.args.new.now c.args.course.now c.args.strings.items c.args.parcel c.requires.tried c.requires.proper c.requires.comes c.in_ok-begin_adding.ensures
