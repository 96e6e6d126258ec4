use Rattle.std.proofs.Common.{◌∙◌, ap, rules}
use Rattle.cad_map.specs.Outcome.{out_of_memory}
use Rattle.map_parts.specs.Parts.{Parts}
use Rattle.cad_surgery.proofs.FitParts.{together, stand-for}
use Rattle.cad_surgery.proofs.GridSteps.{stood}
use Rattle.cad_surgery.proofs.JoinTried as join
use Rattle.cad_surgery.proofs.NearTried as near
use Rattle.cad_surgery.proofs.Trials.{is-left, is-made}
use Rattle.cad_surgery.proofs.edits.try_join.join_within_rules.Goals as goal

pub begin_join-requires : goal.begin_join-requires
begin_join-requires g c =
    join.begins c.draft.inside c.draft.view_is c.draft.invariant c.args.point c.args.joining
    c.requires.ready.tried c.requires.apart c.requires.rows c.requires.ready.proper

pub invariant_of-draft : goal.invariant_of-draft
invariant_of-draft g c =
    together c.draft.inside.grid (join.left c.draft.inside c.draft.view_is c.draft.invariant c.args.point c.args.joining
    c.requires.ready.tried c.requires.apart c.requires.rows c.requires.ready.proper c.begin_join.new.table
    c.in_default.ensures.err)

pub returns-in_default-clause-played : goal.returns-in_default-clause-played
returns-in_default-clause-played g c = record {
  made = is-left (ap (λ (d : Parts). d.grid) c.draft.view_is)
      (join.left-rest c.draft.inside c.draft.view_is c.draft.invariant c.args.point c.args.joining
      c.requires.ready.tried c.requires.apart c.requires.rows c.requires.ready.proper c.begin_join.new.table
      c.in_default.ensures.err c.in_default.ensures.err_table)
      (stood (c.in_default.ensures.err_table ∙ ap (λ (d : Parts). d.table) c.draft.view_is))
      (stand-for c.draft.inside.grid (join.left c.draft.inside c.draft.view_is c.draft.invariant c.args.point c.args.joining
      c.requires.ready.tried c.requires.apart c.requires.rows c.requires.ready.proper c.begin_join.new.table
      c.in_default.ensures.err));
  valid = tt;
  refused = out_of_memory c.requires.ready.tried.allowed;
}

pub invariant_of-draft-2 : goal.invariant_of-draft-2
invariant_of-draft-2 g c =
    together c.draft.inside.grid (join.gone-through c.draft.inside c.draft.view_is c.draft.invariant c.args.point c.args.joining
    c.requires.ready.tried c.requires.apart c.requires.rows c.requires.ready.proper c.begin_join.new.table
    c.in-Ok.ensures.fits)

pub invariant_of-draft-3 : goal.invariant_of-draft-3
invariant_of-draft-3 g c =
    together c.draft.inside.grid (join.gone-through c.draft.inside c.draft.view_is c.draft.invariant c.args.point c.args.joining
    c.requires.ready.tried c.requires.apart c.requires.rows c.requires.ready.proper c.begin_join.new.table
    c.in-Ok.ensures.fits)

pub invariant_of-draft-in_default-first_broken_near : goal.invariant_of-draft-in_default-first_broken_near
invariant_of-draft-in_default-first_broken_near g c =
    together c.draft.inside.grid (join.gone-through c.draft.inside c.draft.view_is c.draft.invariant c.args.point c.args.joining
    c.requires.ready.tried c.requires.apart c.requires.rows c.requires.ready.proper c.begin_join.new.table
    c.in-Ok.ensures.fits)

pub first_broken_near-requires-clause-tested : goal.first_broken_near-requires-clause-tested
first_broken_near-requires-clause-tested g c =
    near.near-tested c.requires.ready (stand-for c.draft.inside.grid (join.gone-through c.draft.inside c.draft.view_is c.draft.invariant c.args.point c.args.joining
    c.requires.ready.tried c.requires.apart c.requires.rows c.requires.ready.proper c.begin_join.new.table
    c.in-Ok.ensures.fits))

pub first_broken_near-requires-clause-held : goal.first_broken_near-requires-clause-held
first_broken_near-requires-clause-held g c =
    near.near-held c.requires.ready (stand-for c.draft.inside.grid (join.gone-through c.draft.inside c.draft.view_is c.draft.invariant c.args.point c.args.joining
    c.requires.ready.tried c.requires.apart c.requires.rows c.requires.ready.proper c.begin_join.new.table
    c.in-Ok.ensures.fits))
    _ _ c.grid.ensures (ap (λ (d : Parts). d.grid) c.draft.view_is)

pub first_broken_near-requires-clause-areas : goal.first_broken_near-requires-clause-areas
first_broken_near-requires-clause-areas g c =
    near.near-areas c.requires.ready (stand-for c.draft.inside.grid (join.gone-through c.draft.inside c.draft.view_is c.draft.invariant c.args.point c.args.joining
    c.requires.ready.tried c.requires.apart c.requires.rows c.requires.ready.proper c.begin_join.new.table
    c.in-Ok.ensures.fits))

pub first_broken_near-requires-clause-touched : goal.first_broken_near-requires-clause-touched
first_broken_near-requires-clause-touched g c =
    near.near-touched c.requires.ready (stand-for c.draft.inside.grid (join.gone-through c.draft.inside c.draft.view_is c.draft.invariant c.args.point c.args.joining
    c.requires.ready.tried c.requires.apart c.requires.rows c.requires.ready.proper c.begin_join.new.table
    c.in-Ok.ensures.fits))

pub unjoin-requires : goal.unjoin-requires
unjoin-requires g c =
    join.undoes c.draft.inside c.draft.view_is c.draft.invariant c.args.point c.args.joining
    c.requires.ready.tried c.requires.apart c.requires.rows c.requires.ready.proper c.begin_join.new.table
    c.in-Ok.ensures.fits c.in-Ok.joined c.in-Ok.ensures.taken c.in-Ok.ensures.has
    c.in-Ok.ensures.first_there c.in-Ok.ensures.second_there c.in-Ok.ensures.loose
    c.in-Ok.ensures.slots c.in-Ok.ensures.room

pub invariant_of-draft-in-Some : goal.invariant_of-draft-in-Some
invariant_of-draft-in-Some g c =
    together c.draft.inside.grid (join.gone-back c.draft.inside c.draft.view_is c.draft.invariant c.args.point c.args.joining
    c.requires.ready.tried c.requires.apart c.requires.rows c.requires.ready.proper c.begin_join.new.table
    c.in-Ok.ensures.fits c.in-Ok.joined c.in-Ok.ensures.taken c.in-Ok.ensures.has
    c.in-Ok.ensures.first_there c.in-Ok.ensures.second_there c.in-Ok.ensures.loose
    c.in-Ok.ensures.slots c.in-Ok.ensures.room c.unjoin.new.table c.unjoin.ensures.fits)

pub drop_hidden-requires : goal.drop_hidden-requires
drop_hidden-requires g c =
    let gone = join.one-unseen c.draft.inside c.draft.view_is c.draft.invariant c.args.point c.args.joining
    c.requires.ready.tried c.requires.apart c.requires.rows c.requires.ready.proper c.begin_join.new.table
    c.in-Ok.ensures.fits c.in-Ok.joined c.in-Ok.ensures.taken c.in-Ok.ensures.has
    c.in-Ok.ensures.first_there c.in-Ok.ensures.second_there c.in-Ok.ensures.loose
    c.in-Ok.ensures.slots c.in-Ok.ensures.room c.unjoin.new.table c.unjoin.ensures.fits
    c.unjoin.ensures.has c.forward.result c.forward.ensures in
    record { whole = gone.whole; within = search rules; different = gone.different; loose = search rules; hidden = gone.hidden }

pub returns-in-Some-clause-played : goal.returns-in-Some-clause-played
returns-in-Some-clause-played g c = record {
  made = is-left (ap (λ (d : Parts). d.grid) c.drop_hidden.ensures.parts ∙ ap (λ (d : Parts). d.grid) c.draft.view_is)
      (join.undone-proper c.draft.inside c.draft.view_is c.draft.invariant c.args.point c.args.joining
      c.requires.ready.tried c.requires.apart c.requires.rows c.requires.ready.proper c.begin_join.new.table
      c.in-Ok.ensures.fits c.in-Ok.joined c.in-Ok.ensures.taken c.in-Ok.ensures.has
      c.in-Ok.ensures.first_there c.in-Ok.ensures.second_there c.in-Ok.ensures.loose
      c.in-Ok.ensures.slots c.in-Ok.ensures.room c.unjoin.new.table c.unjoin.ensures.fits
      c.unjoin.ensures.has c.forward.result c.forward.ensures
      c.drop_hidden.new.draft c.drop_hidden.ensures.fit c.drop_hidden.ensures.map c.drop_hidden.ensures.drops)
      (join.undone-work c.draft.inside c.draft.view_is c.draft.invariant c.args.point c.args.joining
      c.requires.ready.tried c.requires.apart c.requires.rows c.requires.ready.proper c.begin_join.new.table
      c.in-Ok.ensures.fits c.in-Ok.joined c.in-Ok.ensures.taken c.in-Ok.ensures.has
      c.in-Ok.ensures.first_there c.in-Ok.ensures.second_there c.in-Ok.ensures.loose
      c.in-Ok.ensures.slots c.in-Ok.ensures.room c.unjoin.new.table c.unjoin.ensures.fits
      c.unjoin.ensures.has c.forward.result c.forward.ensures
      c.drop_hidden.new.draft c.drop_hidden.ensures.fit c.drop_hidden.ensures.map c.drop_hidden.ensures.drops
      c.is_work_in_range.ensures c.in-Ok.ensures.work c.unjoin.ensures.work c.drop_hidden.ensures.work)
      (c.drop_hidden.ensures.map ∙ stand-for c.draft.inside.grid (join.gone-back c.draft.inside c.draft.view_is c.draft.invariant c.args.point c.args.joining
      c.requires.ready.tried c.requires.apart c.requires.rows c.requires.ready.proper c.begin_join.new.table
      c.in-Ok.ensures.fits c.in-Ok.joined c.in-Ok.ensures.taken c.in-Ok.ensures.has
      c.in-Ok.ensures.first_there c.in-Ok.ensures.second_there c.in-Ok.ensures.loose
      c.in-Ok.ensures.slots c.in-Ok.ensures.room c.unjoin.new.table c.unjoin.ensures.fits));
  valid = tt;
  refused = near.near-refused c.requires.ready (stand-for c.draft.inside.grid (join.gone-through c.draft.inside c.draft.view_is c.draft.invariant c.args.point c.args.joining
      c.requires.ready.tried c.requires.apart c.requires.rows c.requires.ready.proper c.begin_join.new.table
      c.in-Ok.ensures.fits)) c.in-Some.ensures.broken;
}

pub drop_hidden-requires-2 : goal.drop_hidden-requires-2
drop_hidden-requires-2 g c =
    let gone = join.two-unseen c.draft.inside c.draft.view_is c.draft.invariant c.args.point c.args.joining
    c.requires.ready.tried c.requires.apart c.requires.rows c.requires.ready.proper c.begin_join.new.table
    c.in-Ok.ensures.fits c.in-Ok.joined c.in-Ok.ensures.taken c.in-Ok.ensures.has
    c.half_to-before.result c.half_from-behind.result c.half_to-before.ensures c.half_from-behind.ensures in
    record { whole = gone.whole; within = search rules; different = gone.different; loose = search rules; hidden = gone.hidden }

pub returns-clause-played : goal.returns-clause-played
returns-clause-played g c = record {
  made = is-made (ap (λ (d : Parts). d.grid) c.drop_hidden-2.ensures.parts ∙ ap (λ (d : Parts). d.grid) c.draft.view_is)
      (join.done-proper c.draft.inside c.draft.view_is c.draft.invariant c.args.point c.args.joining
      c.requires.ready.tried c.requires.apart c.requires.rows c.requires.ready.proper c.begin_join.new.table
      c.in-Ok.ensures.fits c.in-Ok.joined c.in-Ok.ensures.taken c.in-Ok.ensures.has
      c.half_to-before.result c.half_from-behind.result c.half_to-before.ensures c.half_from-behind.ensures
      c.drop_hidden-2.new.draft c.drop_hidden-2.ensures.fit c.drop_hidden-2.ensures.map c.drop_hidden-2.ensures.drops)
      (join.done-work c.draft.inside c.draft.view_is c.draft.invariant c.args.point c.args.joining
      c.requires.ready.tried c.requires.apart c.requires.rows c.requires.ready.proper c.begin_join.new.table
      c.in-Ok.ensures.fits c.in-Ok.joined c.in-Ok.ensures.taken c.in-Ok.ensures.has
      c.half_to-before.result c.half_from-behind.result c.half_to-before.ensures c.half_from-behind.ensures
      c.drop_hidden-2.new.draft c.drop_hidden-2.ensures.fit c.drop_hidden-2.ensures.map c.drop_hidden-2.ensures.drops
      c.is_work_in_range.ensures c.in-Ok.ensures.work c.drop_hidden-2.ensures.work)
      (c.drop_hidden-2.ensures.map ∙ stand-for c.draft.inside.grid (join.gone-through c.draft.inside c.draft.view_is c.draft.invariant c.args.point c.args.joining
      c.requires.ready.tried c.requires.apart c.requires.rows c.requires.ready.proper c.begin_join.new.table
      c.in-Ok.ensures.fits));
  valid = near.near-valid c.requires.ready (stand-for c.draft.inside.grid (join.gone-through c.draft.inside c.draft.view_is c.draft.invariant c.args.point c.args.joining
      c.requires.ready.tried c.requires.apart c.requires.rows c.requires.ready.proper c.begin_join.new.table
      c.in-Ok.ensures.fits))
      c.in_default-first_broken_near.ensures.kept c.drop_hidden-2.ensures.map;
  refused = tt;
}

pub returns-clause-point : goal.returns-clause-point
returns-clause-point g c =
    (join.taken-held c.draft.inside c.draft.view_is c.draft.invariant c.args.point c.args.joining
    c.requires.ready.tried c.requires.apart c.requires.rows c.requires.ready.proper c.begin_join.new.table
    c.in-Ok.ensures.fits c.in-Ok.joined c.in-Ok.ensures.taken c.in-Ok.ensures.has).0

pub returns-clause-holds : goal.returns-clause-holds
returns-clause-holds g c =
    (join.taken-held c.draft.inside c.draft.view_is c.draft.invariant c.args.point c.args.joining
    c.requires.ready.tried c.requires.apart c.requires.rows c.requires.ready.proper c.begin_join.new.table
    c.in-Ok.ensures.fits c.in-Ok.joined c.in-Ok.ensures.taken c.in-Ok.ensures.has).1
