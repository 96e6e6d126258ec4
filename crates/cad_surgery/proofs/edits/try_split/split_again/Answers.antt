use Rattle.std.proofs.Common.{◌∙◌, ap, rules}
use Rattle.map_parts.specs.Parts.{Parts}
use Rattle.cad_surgery.proofs.FitParts.{together, stand-for}
use Rattle.cad_surgery.proofs.SplitDraft as draft
use Rattle.cad_surgery.proofs.Trials.{is-left-too, is-made}
use Rattle.cad_surgery.proofs.edits.try_split.split_again.Goals as goal

pub rows_of_split-requires : goal.rows_of_split-requires
rows_of_split-requires g c = draft.there-some c.draft.inside c.draft.view_is c.draft.invariant c.args.halving.now c.args.string
    c.requires.tried c.requires.proper

pub begin_split-requires : goal.begin_split-requires
begin_split-requires g c =
    let are = draft.rows-come c.draft.inside c.draft.view_is c.draft.invariant c.args.halving.now c.args.string
    c.requires.tried c.requires.proper
    c.in_ok-coming.coming c.in_ok-coming.ensures in
    draft.begins c.draft.inside c.draft.view_is c.draft.invariant c.args.halving.now c.args.string
    c.requires.tried c.requires.proper c.in_ok-coming.coming are

pub invariant_of-draft : goal.invariant_of-draft
invariant_of-draft g c =
    let are = draft.rows-come c.draft.inside c.draft.view_is c.draft.invariant c.args.halving.now c.args.string
    c.requires.tried c.requires.proper
    c.in_ok-coming.coming c.in_ok-coming.ensures in
    together c.draft.inside.grid (draft.left c.draft.inside c.draft.view_is c.draft.invariant c.args.halving.now c.args.string
    c.requires.tried c.requires.proper c.in_ok-coming.coming are c.begin_split.new.table
    c.in_err-begin_split.ensures.err)

pub returns-in_err-begin_split : goal.returns-in_err-begin_split
returns-in_err-begin_split g c =
    let are = draft.rows-come c.draft.inside c.draft.view_is c.draft.invariant c.args.halving.now c.args.string
    c.requires.tried c.requires.proper
    c.in_ok-coming.coming c.in_ok-coming.ensures in
    is-left-too c.from_residual-in_err-begin_split.ensures.0 (ap (λ (d : Parts). d.grid) c.draft.view_is)
    (draft.left-rest c.draft.inside c.draft.view_is c.draft.invariant c.args.halving.now c.args.string
    c.requires.tried c.requires.proper c.in_ok-coming.coming are c.begin_split.new.table
    c.in_err-begin_split.ensures.err c.in_err-begin_split.ensures.err_table)
    (draft.left-work c.draft.inside c.draft.view_is c.draft.invariant c.args.halving.now c.args.string
    c.requires.tried c.requires.proper c.in_ok-coming.coming are c.begin_split.new.table
    c.is_work_in_range.ensures c.in_err-begin_split.ensures.err_work)
    (stand-for c.draft.inside.grid (draft.left c.draft.inside c.draft.view_is c.draft.invariant c.args.halving.now c.args.string
    c.requires.tried c.requires.proper c.in_ok-coming.coming are c.begin_split.new.table
    c.in_err-begin_split.ensures.err))

pub invariant_of-draft-2 : goal.invariant_of-draft-2
invariant_of-draft-2 g c =
    let are = draft.rows-come c.draft.inside c.draft.view_is c.draft.invariant c.args.halving.now c.args.string
    c.requires.tried c.requires.proper
    c.in_ok-coming.coming c.in_ok-coming.ensures in
    together c.draft.inside.grid (draft.gone-through c.draft.inside c.draft.view_is c.draft.invariant c.args.halving.now c.args.string
    c.requires.tried c.requires.proper c.in_ok-coming.coming are c.begin_split.new.table
    c.in_ok-begin_split.ensures.fits)

pub drop_hidden-requires : goal.drop_hidden-requires
drop_hidden-requires g c =
    let are = draft.rows-come c.draft.inside c.draft.view_is c.draft.invariant c.args.halving.now c.args.string
    c.requires.tried c.requires.proper
    c.in_ok-coming.coming c.in_ok-coming.ensures in
    let gone = draft.gone-unseen c.draft.inside c.draft.view_is c.draft.invariant c.args.halving.now c.args.string
    c.requires.tried c.requires.proper c.in_ok-coming.coming are c.begin_split.new.table
    c.in_ok-begin_split.ensures.fits c.in_ok-begin_split.ensures.has c.forward.result c.forward.ensures in
    record { whole = gone.whole; within = search rules; different = gone.different; loose = search rules; hidden = gone.hidden }

pub returns : goal.returns
returns g c =
    let are = draft.rows-come c.draft.inside c.draft.view_is c.draft.invariant c.args.halving.now c.args.string
    c.requires.tried c.requires.proper
    c.in_ok-coming.coming c.in_ok-coming.ensures in
    is-made (ap (λ (d : Parts). d.grid) c.drop_hidden.ensures.parts ∙ ap (λ (d : Parts). d.grid) c.draft.view_is)
    (draft.gone-proper c.draft.inside c.draft.view_is c.draft.invariant c.args.halving.now c.args.string
    c.requires.tried c.requires.proper c.in_ok-coming.coming are c.begin_split.new.table
    c.in_ok-begin_split.ensures.fits c.in_ok-begin_split.ensures.has c.forward.result c.forward.ensures
    c.drop_hidden.new.draft c.drop_hidden.ensures.fit c.drop_hidden.ensures.map c.drop_hidden.ensures.drops)
    (draft.gone-work c.draft.inside c.draft.view_is c.draft.invariant c.args.halving.now c.args.string
    c.requires.tried c.requires.proper c.in_ok-coming.coming are c.begin_split.new.table
    c.in_ok-begin_split.ensures.fits c.in_ok-begin_split.ensures.has
    c.is_work_in_range.ensures c.in_ok-begin_split.ensures.work c.drop_hidden.new.draft.table c.drop_hidden.ensures.work)
    (c.drop_hidden.ensures.map ∙ stand-for c.draft.inside.grid (draft.gone-through c.draft.inside c.draft.view_is c.draft.invariant c.args.halving.now c.args.string
    c.requires.tried c.requires.proper c.in_ok-coming.coming are c.begin_split.new.table
    c.in_ok-begin_split.ensures.fits))
