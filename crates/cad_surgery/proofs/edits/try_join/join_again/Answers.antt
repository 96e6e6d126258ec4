use Rattle.std.proofs.Common.{◌∙◌, ap, rules}
use Rattle.map_parts.specs.Parts.{Parts}
use Rattle.cad_surgery.proofs.FitParts.{together, stand-for}
use Rattle.cad_surgery.proofs.GridSteps.{stood}
use Rattle.cad_surgery.proofs.JoinTried as join
use Rattle.cad_surgery.proofs.Trials.{is-left-too, is-made}
use Rattle.cad_surgery.proofs.edits.try_join.join_again.Goals as goal

pub begin_join-requires : goal.begin_join-requires
begin_join-requires g c =
    join.begins c.draft.inside c.draft.view_is c.draft.invariant c.args.point c.args.joining
    c.requires.tried c.requires.apart c.requires.rows c.requires.proper

pub invariant_of-draft : goal.invariant_of-draft
invariant_of-draft g c =
    together c.draft.inside.grid (join.left c.draft.inside c.draft.view_is c.draft.invariant c.args.point c.args.joining
    c.requires.tried c.requires.apart c.requires.rows c.requires.proper c.begin_join.new.table
    c.in_err-joined.ensures.err)

pub returns-in_err-joined : goal.returns-in_err-joined
returns-in_err-joined g c =
    is-left-too c.from_residual.ensures.0 (ap (λ (d : Parts). d.grid) c.draft.view_is)
    (join.left-rest c.draft.inside c.draft.view_is c.draft.invariant c.args.point c.args.joining
    c.requires.tried c.requires.apart c.requires.rows c.requires.proper c.begin_join.new.table
    c.in_err-joined.ensures.err c.in_err-joined.ensures.err_table)
    (stood (c.in_err-joined.ensures.err_table ∙ ap (λ (d : Parts). d.table) c.draft.view_is))
    (stand-for c.draft.inside.grid (join.left c.draft.inside c.draft.view_is c.draft.invariant c.args.point c.args.joining
    c.requires.tried c.requires.apart c.requires.rows c.requires.proper c.begin_join.new.table
    c.in_err-joined.ensures.err))

pub invariant_of-draft-2 : goal.invariant_of-draft-2
invariant_of-draft-2 g c =
    together c.draft.inside.grid (join.gone-through c.draft.inside c.draft.view_is c.draft.invariant c.args.point c.args.joining
    c.requires.tried c.requires.apart c.requires.rows c.requires.proper c.begin_join.new.table
    c.in_ok-joined.ensures.fits)

pub drop_hidden-requires : goal.drop_hidden-requires
drop_hidden-requires g c =
    let gone = join.two-unseen c.draft.inside c.draft.view_is c.draft.invariant c.args.point c.args.joining
    c.requires.tried c.requires.apart c.requires.rows c.requires.proper c.begin_join.new.table
    c.in_ok-joined.ensures.fits c.in_ok-joined.joined c.in_ok-joined.ensures.taken c.in_ok-joined.ensures.has
    c.half_to-first.result c.half_from-second.result c.half_to-first.ensures c.half_from-second.ensures in
    record { whole = gone.whole; within = search rules; different = gone.different; loose = search rules; hidden = gone.hidden }

pub returns : goal.returns
returns g c =
    is-made (ap (λ (d : Parts). d.grid) c.drop_hidden.ensures.parts ∙ ap (λ (d : Parts). d.grid) c.draft.view_is)
    (join.done-proper c.draft.inside c.draft.view_is c.draft.invariant c.args.point c.args.joining
    c.requires.tried c.requires.apart c.requires.rows c.requires.proper c.begin_join.new.table
    c.in_ok-joined.ensures.fits c.in_ok-joined.joined c.in_ok-joined.ensures.taken c.in_ok-joined.ensures.has
    c.half_to-first.result c.half_from-second.result c.half_to-first.ensures c.half_from-second.ensures
    c.drop_hidden.new.draft c.drop_hidden.ensures.fit c.drop_hidden.ensures.map c.drop_hidden.ensures.drops)
    (join.done-work c.draft.inside c.draft.view_is c.draft.invariant c.args.point c.args.joining
    c.requires.tried c.requires.apart c.requires.rows c.requires.proper c.begin_join.new.table
    c.in_ok-joined.ensures.fits c.in_ok-joined.joined c.in_ok-joined.ensures.taken c.in_ok-joined.ensures.has
    c.half_to-first.result c.half_from-second.result c.half_to-first.ensures c.half_from-second.ensures
    c.drop_hidden.new.draft c.drop_hidden.ensures.fit c.drop_hidden.ensures.map c.drop_hidden.ensures.drops
    c.is_work_in_range.ensures c.in_ok-joined.ensures.work c.drop_hidden.ensures.work)
    (c.drop_hidden.ensures.map ∙ stand-for c.draft.inside.grid (join.gone-through c.draft.inside c.draft.view_is c.draft.invariant c.args.point c.args.joining
    c.requires.tried c.requires.apart c.requires.rows c.requires.proper c.begin_join.new.table
    c.in_ok-joined.ensures.fits))
