use Rattle.cad_surgery.proofs.FitParts.{together}
use Rattle.cad_surgery.proofs.UnmergedDraft as back
use Rattle.cad_surgery.proofs.edits.merged.unmerge_with.Goals as goal

pub begin_unmerge-requires : goal.begin_unmerge-requires
begin_unmerge-requires g c =
    (c.requires.beside.made.0, back.begins c.draft.inside c.draft.view_is c.draft.invariant c.requires.beside.proper c.args.told.now c.requires.path c.requires.gone c.requires.beside.made.1)

pub invariant_of-draft : goal.invariant_of-draft
invariant_of-draft g c =
    together c.draft.inside.grid
    (back.stays c.draft.inside c.draft.view_is c.draft.invariant c.requires.beside.proper c.args.told.now c.requires.path c.requires.gone c.in_err-begin_unmerge.ensures c.requires.beside.made.1)

pub returns-in_err-begin_unmerge : goal.returns-in_err-begin_unmerge
returns-in_err-begin_unmerge g c =
    back.left c.draft.inside c.draft.view_is c.draft.invariant c.requires.beside.proper c.args.told.now c.requires.path c.requires.gone c.in_err-begin_unmerge.ensures
    c.is_work_in_range.ensures c.from_residual.ensures.0 c.requires.beside.made

pub invariant_of-draft-2 : goal.invariant_of-draft-2
invariant_of-draft-2 g c =
    together c.draft.inside.grid
    (back.gone-back c.draft.inside c.draft.view_is c.draft.invariant c.requires.beside.proper c.args.told.now c.requires.path c.requires.gone c.in_ok-begin_unmerge.ensures c.requires.beside.made.1)

pub returns : goal.returns
returns g c =
    back.done c.draft.inside c.draft.view_is c.draft.invariant c.requires.beside.proper c.args.told.now c.requires.path c.requires.gone c.in_ok-begin_unmerge.ensures
    c.is_work_in_range.ensures c.requires.beside.made
