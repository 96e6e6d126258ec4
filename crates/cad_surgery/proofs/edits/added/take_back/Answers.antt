use Rattle.cad_surgery.proofs.AddedBack as back
use Rattle.cad_surgery.proofs.FitParts.{together}
use Rattle.cad_surgery.proofs.edits.added.take_back.Goals as goal

pub begin_going-requires : goal.begin_going-requires
begin_going-requires g c =
    (c.requires.beside.made.0, back.begins c.draft.inside c.draft.view_is c.draft.invariant c.requires.beside.proper c.args.new.now c.args.course.now c.requires.path c.requires.beside.made.1)

pub invariant_of-draft : goal.invariant_of-draft
invariant_of-draft g c =
    together c.draft.inside.grid
    (back.stays c.draft.inside c.draft.view_is c.draft.invariant c.requires.beside.proper c.args.new.now c.args.course.now c.requires.path c.in_err-begin_going.ensures c.requires.beside.made.1)

pub returns-in_err-begin_going : goal.returns-in_err-begin_going
returns-in_err-begin_going g c =
    back.left c.draft.inside c.draft.view_is c.draft.invariant c.requires.beside.proper c.args.new.now c.args.course.now c.requires.path c.in_err-begin_going.ensures c.from_residual.ensures.0 c.requires.beside.made

pub invariant_of-draft-2 : goal.invariant_of-draft-2
invariant_of-draft-2 g c =
    together c.draft.inside.grid
    (back.gone-back c.draft.inside c.draft.view_is c.draft.invariant c.requires.beside.proper c.args.new.now c.args.course.now c.requires.path c.in_ok-begin_going.ensures c.requires.beside.made.1)

pub drop_hidden-requires : goal.drop_hidden-requires
drop_hidden-requires g c =
    let now = back.hidden-now c.draft.inside c.draft.view_is c.draft.invariant c.requires.beside.proper c.args.new.now c.args.course.now c.requires.path c.in_ok-begin_going.ensures c.requires.beside.made.1 in
    record { whole = now.whole; within = now.within; different = now.different; loose = now.loose; hidden = now.hidden }

pub returns : goal.returns
returns g c =
    back.done c.draft.inside c.draft.view_is c.draft.invariant c.requires.beside.proper c.args.new.now c.args.course.now c.requires.path c.in_ok-begin_going.ensures c.is_work_in_range.ensures c.requires.beside.made _
    c.drop_hidden.ensures.parts c.drop_hidden.ensures.fit c.drop_hidden.ensures.map c.drop_hidden.ensures.drops c.drop_hidden.ensures.work
