use Rattle.std.proofs.Common.{ap, refl}
use Rattle.cad_map.specs.Outcome.{out_of_memory}
use Rattle.map_parts.specs.Parts.{Parts}
use Rattle.cad_surgery.proofs.FitParts.{together, gone-from}
use Rattle.cad_surgery.proofs.MergersTried as merge
use Rattle.cad_surgery.proofs.NearTried as near
use Rattle.cad_surgery.proofs.edits.merging.merge_within_rules.Goals as goal

pub begin_merge-requires : goal.begin_merge-requires
begin_merge-requires g c = (_, merge.on c.draft.inside c.draft.view_is c.draft.invariant c.args.merger.now c.requires.ready.proper c.requires.shared c.requires.strings)

pub invariant_of-draft : goal.invariant_of-draft
invariant_of-draft g c =
    together c.draft.inside.grid (merge.left c.draft.inside c.draft.view_is c.draft.invariant c.args.merger.now c.requires.ready.proper c.requires.shared c.requires.strings
    c.in_default.ensures.begun)

pub returns-in_default-clause-played : goal.returns-in_default-clause-played
returns-in_default-clause-played g c = record {
  made = merge.left-made c.draft.inside c.draft.view_is c.draft.invariant c.args.merger.now c.requires.ready.proper c.requires.shared c.requires.strings
      c.in_default.ensures.begun refl;
  valid = tt;
  refused = out_of_memory c.requires.ready.tried.allowed;
}

pub invariant_of-draft-2 : goal.invariant_of-draft-2
invariant_of-draft-2 g c =
    together c.draft.inside.grid (merge.gone-through c.draft.inside c.draft.view_is c.draft.invariant c.args.merger.now c.requires.ready.proper c.requires.shared c.requires.strings
    c.in-Ok.ensures.begun)

pub invariant_of-draft-3 : goal.invariant_of-draft-3
invariant_of-draft-3 g c =
    together c.draft.inside.grid (merge.gone-through c.draft.inside c.draft.view_is c.draft.invariant c.args.merger.now c.requires.ready.proper c.requires.shared c.requires.strings
    c.in-Ok.ensures.begun)

pub invariant_of-draft-in_default-first_broken_near : goal.invariant_of-draft-in_default-first_broken_near
invariant_of-draft-in_default-first_broken_near g c =
    together c.draft.inside.grid (merge.gone-through c.draft.inside c.draft.view_is c.draft.invariant c.args.merger.now c.requires.ready.proper c.requires.shared c.requires.strings
    c.in-Ok.ensures.begun)

pub first_broken_near-requires-clause-tested : goal.first_broken_near-requires-clause-tested
first_broken_near-requires-clause-tested g c =
    near.near-tested c.requires.ready (merge.stands c.draft.inside c.draft.view_is c.draft.invariant c.args.merger.now c.requires.ready.proper c.requires.shared c.requires.strings
    c.in-Ok.ensures.begun)

pub first_broken_near-requires-clause-held : goal.first_broken_near-requires-clause-held
first_broken_near-requires-clause-held g c =
    near.near-held c.requires.ready (merge.stands c.draft.inside c.draft.view_is c.draft.invariant c.args.merger.now c.requires.ready.proper c.requires.shared c.requires.strings
    c.in-Ok.ensures.begun) _ _ c.grid.ensures (ap (λ (d : Parts). d.grid) c.draft.view_is)

pub first_broken_near-requires-clause-areas : goal.first_broken_near-requires-clause-areas
first_broken_near-requires-clause-areas g c =
    near.near-areas c.requires.ready (merge.stands c.draft.inside c.draft.view_is c.draft.invariant c.args.merger.now c.requires.ready.proper c.requires.shared c.requires.strings
    c.in-Ok.ensures.begun)

pub first_broken_near-requires-clause-touched : goal.first_broken_near-requires-clause-touched
first_broken_near-requires-clause-touched g c =
    near.near-touched c.requires.ready (merge.stands c.draft.inside c.draft.view_is c.draft.invariant c.args.merger.now c.requires.ready.proper c.requires.shared c.requires.strings
    c.in-Ok.ensures.begun)

pub unmerge-requires : goal.unmerge-requires
unmerge-requires g c =
    merge.undoing c.draft.inside c.draft.view_is c.draft.invariant c.args.merger.now c.requires.ready.proper c.requires.shared c.requires.strings
    c.in-Ok.ensures.begun

pub invariant_of-draft-in-Some : goal.invariant_of-draft-in-Some
invariant_of-draft-in-Some g c =
    together c.draft.inside.grid (merge.back-with c.draft.inside c.draft.view_is c.draft.invariant c.args.merger.now c.requires.ready.proper c.requires.shared c.requires.strings
    c.in-Ok.ensures.begun c.unmerge.ensures)

pub returns-in-Some-clause-played : goal.returns-in-Some-clause-played
returns-in-Some-clause-played g c = record {
  made = merge.back-made c.draft.inside c.draft.view_is c.draft.invariant c.args.merger.now c.requires.ready.proper c.requires.shared c.requires.strings
      c.in-Ok.ensures.begun c.unmerge.ensures;
  valid = tt;
  refused = near.near-refused c.requires.ready (merge.stands c.draft.inside c.draft.view_is c.draft.invariant c.args.merger.now c.requires.ready.proper c.requires.shared c.requires.strings
      c.in-Ok.ensures.begun) c.in-Some.ensures.broken;
}

pub drop_hidden-requires : goal.drop_hidden-requires
drop_hidden-requires g c =
    let now = merge.hidden-now c.draft.inside c.draft.view_is c.draft.invariant c.args.merger.now c.requires.ready.proper c.requires.shared c.requires.strings
    c.in-Ok.ensures.begun in
    record { whole = now.whole; within = now.within; different = now.different; loose = now.loose; hidden = now.hidden }

pub returns-clause-played : goal.returns-clause-played
returns-clause-played g c = record {
  made = merge.done c.draft.inside c.draft.view_is c.draft.invariant c.args.merger.now c.requires.ready.proper c.requires.shared c.requires.strings
      c.in-Ok.ensures.begun _ c.drop_hidden.ensures.parts c.drop_hidden.ensures.fit c.drop_hidden.ensures.map c.drop_hidden.ensures.drops c.drop_hidden.ensures.work;
  valid = near.near-valid c.requires.ready (merge.stands c.draft.inside c.draft.view_is c.draft.invariant c.args.merger.now c.requires.ready.proper c.requires.shared c.requires.strings
      c.in-Ok.ensures.begun) c.in_default-first_broken_near.ensures.kept c.drop_hidden.ensures.map;
  refused = tt;
}

pub returns-clause-gone : goal.returns-clause-gone
returns-clause-gone g c = gone-from c.draft.inside c.draft.view_is c.in-Ok.ensures.gone
