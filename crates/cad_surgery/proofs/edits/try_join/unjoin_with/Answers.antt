use Rattle.std.proofs.Common.{rules}
use Rattle.cad_surgery.proofs.FitParts.{together}
use Rattle.cad_surgery.proofs.JoinBack as join
use Rattle.cad_surgery.proofs.edits.try_join.unjoin_with.Goals as goal

pub begin_unjoin-requires : goal.begin_unjoin-requires
begin_unjoin-requires g c = join.begins c.draft.inside c.draft.view_is c.draft.invariant c.requires.beside.proper c.args.joined c.args.string c.requires.given c.requires.beside.made.1

pub invariant_of-draft : goal.invariant_of-draft
invariant_of-draft g c =
    together c.draft.inside.grid (join.stays c.draft.inside c.draft.view_is c.draft.invariant c.requires.beside.proper c.args.joined c.args.string c.requires.given c.begin_unjoin.new.table c.in_err-begin_unjoin.ensures.err c.requires.beside.made.1)

pub returns-in_err-begin_unjoin : goal.returns-in_err-begin_unjoin
returns-in_err-begin_unjoin g c =
    join.left c.draft.inside c.draft.view_is c.draft.invariant c.requires.beside.proper c.args.joined c.args.string c.requires.given c.begin_unjoin.new.table c.in_err-begin_unjoin.ensures.err
    c.in_err-begin_unjoin.ensures.err_table c.is_work_in_range.ensures c.in_err-begin_unjoin.ensures.err_work c.from_residual.ensures.0 c.requires.beside.made

pub invariant_of-draft-2 : goal.invariant_of-draft-2
invariant_of-draft-2 g c =
    together c.draft.inside.grid (join.gone-back c.draft.inside c.draft.view_is c.draft.invariant c.requires.beside.proper c.args.joined c.args.string c.requires.given c.begin_unjoin.new.table c.in_ok-begin_unjoin.ensures.fits c.requires.beside.made.1)

pub drop_hidden-requires : goal.drop_hidden-requires
drop_hidden-requires g c =
    let gone = join.one-unseen c.draft.inside c.draft.view_is c.draft.invariant c.requires.beside.proper c.args.joined c.args.string c.requires.given c.begin_unjoin.new.table
    c.in_ok-begin_unjoin.ensures.fits c.in_ok-begin_unjoin.ensures.has c.forward.result c.forward.ensures c.requires.beside.made.1 in
    record { whole = gone.whole; within = search rules; different = gone.different; loose = search rules; hidden = gone.hidden }

pub returns : goal.returns
returns g c =
    join.done c.draft.inside c.draft.view_is c.draft.invariant c.requires.beside.proper c.args.joined c.args.string c.requires.given c.begin_unjoin.new.table
    c.in_ok-begin_unjoin.ensures.fits c.in_ok-begin_unjoin.ensures.has c.forward.result c.forward.ensures c.is_work_in_range.ensures c.in_ok-begin_unjoin.ensures.work
    c.requires.beside.made _ c.drop_hidden.ensures.parts c.drop_hidden.ensures.fit c.drop_hidden.ensures.map c.drop_hidden.ensures.drops c.drop_hidden.ensures.work
