use Rattle.cad_surgery.proofs.FitParts.{together}
use Rattle.cad_surgery.proofs.MergersTried as merge
use Rattle.cad_surgery.proofs.edits.merging.merge_again.Goals as goal

pub begin_merge-requires : goal.begin_merge-requires
begin_merge-requires g c = (_, merge.on c.draft.inside c.draft.view_is c.draft.invariant c.args.merger.now c.requires.proper c.requires.shared c.requires.strings)

pub invariant_of-draft : goal.invariant_of-draft
invariant_of-draft g c =
    together c.draft.inside.grid (merge.left c.draft.inside c.draft.view_is c.draft.invariant c.args.merger.now c.requires.proper c.requires.shared c.requires.strings
    c.in_err-begin_merge.ensures.begun)

pub returns-in_err-begin_merge : goal.returns-in_err-begin_merge
returns-in_err-begin_merge g c =
    merge.left-made c.draft.inside c.draft.view_is c.draft.invariant c.args.merger.now c.requires.proper c.requires.shared c.requires.strings
    c.in_err-begin_merge.ensures.begun c.from_residual.ensures.0

pub invariant_of-draft-2 : goal.invariant_of-draft-2
invariant_of-draft-2 g c =
    together c.draft.inside.grid (merge.gone-through c.draft.inside c.draft.view_is c.draft.invariant c.args.merger.now c.requires.proper c.requires.shared c.requires.strings
    c.in_ok-begin_merge.ensures.begun)

pub drop_hidden-requires : goal.drop_hidden-requires
drop_hidden-requires g c =
    let now = merge.hidden-now c.draft.inside c.draft.view_is c.draft.invariant c.args.merger.now c.requires.proper c.requires.shared c.requires.strings
    c.in_ok-begin_merge.ensures.begun in
    record { whole = now.whole; within = now.within; different = now.different; loose = now.loose; hidden = now.hidden }

pub returns : goal.returns
returns g c =
    merge.done c.draft.inside c.draft.view_is c.draft.invariant c.args.merger.now c.requires.proper c.requires.shared c.requires.strings
    c.in_ok-begin_merge.ensures.begun _ c.drop_hidden.ensures.parts c.drop_hidden.ensures.fit c.drop_hidden.ensures.map c.drop_hidden.ensures.drops c.drop_hidden.ensures.work
