use Rattle.std.proofs.Common.{◌∙◌, ap, rules}
use Rattle.cad_map.specs.Outcome.{out_of_memory}
use Rattle.map_parts.specs.Parts.{Parts}
use Rattle.cad_surgery.proofs.FitParts.{together, stand-for}
use Rattle.cad_surgery.proofs.NearTried as near
use Rattle.cad_surgery.proofs.SplitDraft as draft
use Rattle.cad_surgery.proofs.Trials.{is-left, is-made}
use Rattle.cad_surgery.proofs.edits.try_split.split_within_rules.Goals as goal

pub begin_split-requires : goal.begin_split-requires
begin_split-requires g c =
    draft.begins c.draft.inside c.draft.view_is c.draft.invariant c.args.halving.now c.args.string
    c.requires.ready.tried c.requires.ready.proper c.args.coming c.requires.rows

pub invariant_of-draft : goal.invariant_of-draft
invariant_of-draft g c =
    together c.draft.inside.grid (draft.left c.draft.inside c.draft.view_is c.draft.invariant c.args.halving.now c.args.string
    c.requires.ready.tried c.requires.ready.proper c.args.coming c.requires.rows c.begin_split.new.table
    c.in_default.ensures.err)

pub returns-in_default-clause-played : goal.returns-in_default-clause-played
returns-in_default-clause-played g c = record {
  made = is-left (ap (λ (d : Parts). d.grid) c.draft.view_is)
      (draft.left-rest c.draft.inside c.draft.view_is c.draft.invariant c.args.halving.now c.args.string
      c.requires.ready.tried c.requires.ready.proper c.args.coming c.requires.rows c.begin_split.new.table
      c.in_default.ensures.err c.in_default.ensures.err_table)
      (draft.left-work c.draft.inside c.draft.view_is c.draft.invariant c.args.halving.now c.args.string
      c.requires.ready.tried c.requires.ready.proper c.args.coming c.requires.rows c.begin_split.new.table
      c.is_work_in_range.ensures c.in_default.ensures.err_work)
      (stand-for c.draft.inside.grid (draft.left c.draft.inside c.draft.view_is c.draft.invariant c.args.halving.now c.args.string
      c.requires.ready.tried c.requires.ready.proper c.args.coming c.requires.rows c.begin_split.new.table
      c.in_default.ensures.err));
  valid = tt;
  refused = out_of_memory c.requires.ready.tried.allowed;
}

pub invariant_of-draft-2 : goal.invariant_of-draft-2
invariant_of-draft-2 g c =
    together c.draft.inside.grid (draft.gone-through c.draft.inside c.draft.view_is c.draft.invariant c.args.halving.now c.args.string
    c.requires.ready.tried c.requires.ready.proper c.args.coming c.requires.rows c.begin_split.new.table
    c.in-Ok.ensures.fits)

pub invariant_of-draft-3 : goal.invariant_of-draft-3
invariant_of-draft-3 g c =
    together c.draft.inside.grid (draft.gone-through c.draft.inside c.draft.view_is c.draft.invariant c.args.halving.now c.args.string
    c.requires.ready.tried c.requires.ready.proper c.args.coming c.requires.rows c.begin_split.new.table
    c.in-Ok.ensures.fits)

pub invariant_of-draft-in_default-first_broken_near : goal.invariant_of-draft-in_default-first_broken_near
invariant_of-draft-in_default-first_broken_near g c =
    together c.draft.inside.grid (draft.gone-through c.draft.inside c.draft.view_is c.draft.invariant c.args.halving.now c.args.string
    c.requires.ready.tried c.requires.ready.proper c.args.coming c.requires.rows c.begin_split.new.table
    c.in-Ok.ensures.fits)

pub first_broken_near-requires-clause-tested : goal.first_broken_near-requires-clause-tested
first_broken_near-requires-clause-tested g c =
    near.near-tested c.requires.ready (stand-for c.draft.inside.grid (draft.gone-through c.draft.inside c.draft.view_is c.draft.invariant c.args.halving.now c.args.string
    c.requires.ready.tried c.requires.ready.proper c.args.coming c.requires.rows c.begin_split.new.table
    c.in-Ok.ensures.fits))

pub first_broken_near-requires-clause-held : goal.first_broken_near-requires-clause-held
first_broken_near-requires-clause-held g c =
    near.near-held c.requires.ready (stand-for c.draft.inside.grid (draft.gone-through c.draft.inside c.draft.view_is c.draft.invariant c.args.halving.now c.args.string
    c.requires.ready.tried c.requires.ready.proper c.args.coming c.requires.rows c.begin_split.new.table
    c.in-Ok.ensures.fits))
    _ _ c.grid.ensures (ap (λ (d : Parts). d.grid) c.draft.view_is)

pub first_broken_near-requires-clause-areas : goal.first_broken_near-requires-clause-areas
first_broken_near-requires-clause-areas g c =
    near.near-areas c.requires.ready (stand-for c.draft.inside.grid (draft.gone-through c.draft.inside c.draft.view_is c.draft.invariant c.args.halving.now c.args.string
    c.requires.ready.tried c.requires.ready.proper c.args.coming c.requires.rows c.begin_split.new.table
    c.in-Ok.ensures.fits))

pub first_broken_near-requires-clause-touched : goal.first_broken_near-requires-clause-touched
first_broken_near-requires-clause-touched g c =
    near.near-touched c.requires.ready (stand-for c.draft.inside.grid (draft.gone-through c.draft.inside c.draft.view_is c.draft.invariant c.args.halving.now c.args.string
    c.requires.ready.tried c.requires.ready.proper c.args.coming c.requires.rows c.begin_split.new.table
    c.in-Ok.ensures.fits))

pub unsplit-requires : goal.unsplit-requires
unsplit-requires g c =
    draft.undo-begins c.draft.inside c.draft.view_is c.draft.invariant c.args.halving.now c.args.string
    c.requires.ready.tried c.requires.ready.proper c.args.coming c.requires.rows c.begin_split.new.table
    c.in-Ok.ensures.fits c.in-Ok.ensures.has c.in-Ok.place c.in-Ok.ensures.found c.in-Ok.ensures.row
    c.in-Ok.ensures.there c.in-Ok.ensures.loose c.in-Ok.ensures.slot

pub invariant_of-draft-in-Some : goal.invariant_of-draft-in-Some
invariant_of-draft-in-Some g c =
    together c.draft.inside.grid (draft.gone-back c.draft.inside c.draft.view_is c.draft.invariant c.args.halving.now c.args.string
    c.requires.ready.tried c.requires.ready.proper c.args.coming c.requires.rows c.begin_split.new.table
    c.in-Ok.ensures.fits c.in-Ok.ensures.has c.in-Ok.place c.in-Ok.ensures.found c.in-Ok.ensures.row
    c.in-Ok.ensures.there c.in-Ok.ensures.loose c.in-Ok.ensures.slot c.unsplit.new.table
    c.unsplit.ensures.fits c.unsplit.ensures.has)

pub drop_hidden-requires : goal.drop_hidden-requires
drop_hidden-requires g c =
    let gone = draft.back-unseen c.draft.inside c.draft.view_is c.draft.invariant c.args.halving.now c.args.string
    c.requires.ready.tried c.requires.ready.proper c.args.coming c.requires.rows c.begin_split.new.table
    c.in-Ok.ensures.fits c.in-Ok.ensures.has c.in-Ok.place c.in-Ok.ensures.found c.in-Ok.ensures.row
    c.in-Ok.ensures.there c.in-Ok.ensures.loose c.in-Ok.ensures.slot c.unsplit.new.table
    c.unsplit.ensures.fits c.unsplit.ensures.has c.forward.result c.forward-in-Some.result
    (c.forward.ensures, c.forward-in-Some.ensures) in
    record { whole = gone.whole; within = search rules; different = gone.different; loose = search rules; hidden = gone.hidden }

pub returns-in-Some-clause-played : goal.returns-in-Some-clause-played
returns-in-Some-clause-played g c = record {
  made = is-left (ap (λ (d : Parts). d.grid) c.drop_hidden.ensures.parts ∙ ap (λ (d : Parts). d.grid) c.draft.view_is)
      (draft.back-proper c.draft.inside c.draft.view_is c.draft.invariant c.args.halving.now c.args.string
      c.requires.ready.tried c.requires.ready.proper c.args.coming c.requires.rows c.begin_split.new.table
      c.in-Ok.ensures.fits c.in-Ok.ensures.has c.in-Ok.place c.in-Ok.ensures.found c.in-Ok.ensures.row
      c.in-Ok.ensures.there c.in-Ok.ensures.loose c.in-Ok.ensures.slot c.unsplit.new.table
      c.unsplit.ensures.fits c.unsplit.ensures.has c.forward.result c.forward-in-Some.result
      (c.forward.ensures, c.forward-in-Some.ensures)
      c.drop_hidden.new.draft c.drop_hidden.ensures.fit c.drop_hidden.ensures.map c.drop_hidden.ensures.drops)
      (draft.back-work c.draft.inside c.draft.view_is c.draft.invariant c.args.halving.now c.args.string
      c.requires.ready.tried c.requires.ready.proper c.args.coming c.requires.rows c.begin_split.new.table
      c.in-Ok.ensures.fits c.in-Ok.ensures.has c.in-Ok.place c.in-Ok.ensures.found c.in-Ok.ensures.row
      c.in-Ok.ensures.there c.in-Ok.ensures.loose c.in-Ok.ensures.slot c.unsplit.new.table
      c.unsplit.ensures.fits c.unsplit.ensures.has
      c.is_work_in_range.ensures c.in-Ok.ensures.work c.unsplit.ensures.work c.drop_hidden.new.draft.table c.drop_hidden.ensures.work)
      (c.drop_hidden.ensures.map ∙ stand-for c.draft.inside.grid (draft.gone-back c.draft.inside c.draft.view_is c.draft.invariant c.args.halving.now c.args.string
      c.requires.ready.tried c.requires.ready.proper c.args.coming c.requires.rows c.begin_split.new.table
      c.in-Ok.ensures.fits c.in-Ok.ensures.has c.in-Ok.place c.in-Ok.ensures.found c.in-Ok.ensures.row
      c.in-Ok.ensures.there c.in-Ok.ensures.loose c.in-Ok.ensures.slot c.unsplit.new.table
      c.unsplit.ensures.fits c.unsplit.ensures.has));
  valid = tt;
  refused = near.near-refused c.requires.ready (stand-for c.draft.inside.grid (draft.gone-through c.draft.inside c.draft.view_is c.draft.invariant c.args.halving.now c.args.string
      c.requires.ready.tried c.requires.ready.proper c.args.coming c.requires.rows c.begin_split.new.table
      c.in-Ok.ensures.fits)) c.in-Some.ensures.broken;
}

pub drop_hidden-requires-2 : goal.drop_hidden-requires-2
drop_hidden-requires-2 g c =
    let gone = draft.gone-unseen c.draft.inside c.draft.view_is c.draft.invariant c.args.halving.now c.args.string
    c.requires.ready.tried c.requires.ready.proper c.args.coming c.requires.rows c.begin_split.new.table
    c.in-Ok.ensures.fits c.in-Ok.ensures.has c.forward-2.result c.forward-2.ensures in
    record { whole = gone.whole; within = search rules; different = gone.different; loose = search rules; hidden = gone.hidden }

pub returns-clause-played : goal.returns-clause-played
returns-clause-played g c = record {
  made = is-made (ap (λ (d : Parts). d.grid) c.drop_hidden-2.ensures.parts ∙ ap (λ (d : Parts). d.grid) c.draft.view_is)
      (draft.gone-proper c.draft.inside c.draft.view_is c.draft.invariant c.args.halving.now c.args.string
      c.requires.ready.tried c.requires.ready.proper c.args.coming c.requires.rows c.begin_split.new.table
      c.in-Ok.ensures.fits c.in-Ok.ensures.has c.forward-2.result c.forward-2.ensures
      c.drop_hidden-2.new.draft c.drop_hidden-2.ensures.fit c.drop_hidden-2.ensures.map c.drop_hidden-2.ensures.drops)
      (draft.gone-work c.draft.inside c.draft.view_is c.draft.invariant c.args.halving.now c.args.string
      c.requires.ready.tried c.requires.ready.proper c.args.coming c.requires.rows c.begin_split.new.table
      c.in-Ok.ensures.fits c.in-Ok.ensures.has
      c.is_work_in_range.ensures c.in-Ok.ensures.work c.drop_hidden-2.new.draft.table c.drop_hidden-2.ensures.work)
      (c.drop_hidden-2.ensures.map ∙ stand-for c.draft.inside.grid (draft.gone-through c.draft.inside c.draft.view_is c.draft.invariant c.args.halving.now c.args.string
      c.requires.ready.tried c.requires.ready.proper c.args.coming c.requires.rows c.begin_split.new.table
      c.in-Ok.ensures.fits));
  valid = near.near-valid c.requires.ready (stand-for c.draft.inside.grid (draft.gone-through c.draft.inside c.draft.view_is c.draft.invariant c.args.halving.now c.args.string
      c.requires.ready.tried c.requires.ready.proper c.args.coming c.requires.rows c.begin_split.new.table
      c.in-Ok.ensures.fits))
      c.in_default-first_broken_near.ensures.kept c.drop_hidden-2.ensures.map;
  refused = tt;
}
