use Rattle.std.proofs.Common.{ap, refl}
use Rattle.cad_map.specs.Outcome.{out_of_memory}
use Rattle.map_parts.specs.Parts.{Parts}
use Rattle.cad_surgery.proofs.FitParts.{together}
use Rattle.cad_surgery.proofs.NearTried as near
use Rattle.cad_surgery.proofs.ParcelsTried as new
use Rattle.cad_surgery.proofs.edits.adding.add_within_rules.Goals as goal

pub begin_adding-requires : goal.begin_adding-requires
begin_adding-requires g c = (_, new.on c.draft.inside c.draft.view_is c.draft.invariant c.args.new.now c.args.course.now c.args.strings.items c.args.parcel c.requires.ready.tried c.requires.ready.proper c.requires.comes)

pub invariant_of-draft : goal.invariant_of-draft
invariant_of-draft g c =
    together c.draft.inside.grid (new.left c.draft.inside c.draft.view_is c.draft.invariant c.args.new.now c.args.course.now c.args.strings.items c.args.parcel c.requires.ready.tried c.requires.ready.proper c.requires.comes
    c.in_default.ensures)

pub returns-in_default : goal.returns-in_default
returns-in_default g c = record {
  made = new.left-made c.draft.inside c.draft.view_is c.draft.invariant c.args.new.now c.args.course.now c.args.strings.items c.args.parcel c.requires.ready.tried c.requires.ready.proper c.requires.comes
      c.in_default.ensures refl;
  valid = tt;
  refused = out_of_memory c.requires.ready.tried.allowed;
}

pub invariant_of-draft-2 : goal.invariant_of-draft-2
invariant_of-draft-2 g c =
    together c.draft.inside.grid (new.gone-through c.draft.inside c.draft.view_is c.draft.invariant c.args.new.now c.args.course.now c.args.strings.items c.args.parcel c.requires.ready.tried c.requires.ready.proper c.requires.comes
    c.in-Ok.ensures)

pub invariant_of-draft-3 : goal.invariant_of-draft-3
invariant_of-draft-3 g c =
    together c.draft.inside.grid (new.gone-through c.draft.inside c.draft.view_is c.draft.invariant c.args.new.now c.args.course.now c.args.strings.items c.args.parcel c.requires.ready.tried c.requires.ready.proper c.requires.comes
    c.in-Ok.ensures)

pub invariant_of-draft-in_default-first_broken_near : goal.invariant_of-draft-in_default-first_broken_near
invariant_of-draft-in_default-first_broken_near g c =
    together c.draft.inside.grid (new.gone-through c.draft.inside c.draft.view_is c.draft.invariant c.args.new.now c.args.course.now c.args.strings.items c.args.parcel c.requires.ready.tried c.requires.ready.proper c.requires.comes
    c.in-Ok.ensures)

pub first_broken_near-requires-clause-tested : goal.first_broken_near-requires-clause-tested
first_broken_near-requires-clause-tested g c =
    near.near-tested c.requires.ready (new.stands c.draft.inside c.draft.view_is c.draft.invariant c.args.new.now c.args.course.now c.args.strings.items c.args.parcel c.requires.ready.tried c.requires.ready.proper c.requires.comes
    c.in-Ok.ensures)

pub first_broken_near-requires-clause-held : goal.first_broken_near-requires-clause-held
first_broken_near-requires-clause-held g c =
    near.near-held c.requires.ready (new.stands c.draft.inside c.draft.view_is c.draft.invariant c.args.new.now c.args.course.now c.args.strings.items c.args.parcel c.requires.ready.tried c.requires.ready.proper c.requires.comes
    c.in-Ok.ensures) _ _ c.grid.ensures (ap (λ (d : Parts). d.grid) c.draft.view_is)

pub first_broken_near-requires-clause-areas : goal.first_broken_near-requires-clause-areas
first_broken_near-requires-clause-areas g c =
    near.near-areas c.requires.ready (new.stands c.draft.inside c.draft.view_is c.draft.invariant c.args.new.now c.args.course.now c.args.strings.items c.args.parcel c.requires.ready.tried c.requires.ready.proper c.requires.comes
    c.in-Ok.ensures)

pub first_broken_near-requires-clause-touched : goal.first_broken_near-requires-clause-touched
first_broken_near-requires-clause-touched g c =
    near.near-touched c.requires.ready (new.stands c.draft.inside c.draft.view_is c.draft.invariant c.args.new.now c.args.course.now c.args.strings.items c.args.parcel c.requires.ready.tried c.requires.ready.proper c.requires.comes
    c.in-Ok.ensures)

pub take_out-requires : goal.take_out-requires
take_out-requires g c =
    new.undoing c.draft.inside c.draft.view_is c.draft.invariant c.args.new.now c.args.course.now c.args.strings.items c.args.parcel c.requires.ready.tried c.requires.ready.proper c.requires.comes c.in-Ok.ensures

pub invariant_of-draft-in-Some : goal.invariant_of-draft-in-Some
invariant_of-draft-in-Some g c =
    together c.draft.inside.grid (new.back-with c.draft.inside c.draft.view_is c.draft.invariant c.args.new.now c.args.course.now c.args.strings.items c.args.parcel c.requires.ready.tried c.requires.ready.proper c.requires.comes
    c.in-Ok.ensures c.take_out.ensures)

pub drop_hidden-requires : goal.drop_hidden-requires
drop_hidden-requires g c =
    let now = new.hidden-now c.draft.inside c.draft.view_is c.draft.invariant c.args.new.now c.args.course.now c.args.strings.items c.args.parcel c.requires.ready.tried c.requires.ready.proper c.requires.comes
    c.in-Ok.ensures c.take_out.ensures in
    record { whole = now.whole; within = now.within; different = now.different; loose = now.loose; hidden = now.hidden }

pub returns-in-Some : goal.returns-in-Some
returns-in-Some g c = record {
  made = new.back-made c.draft.inside c.draft.view_is c.draft.invariant c.args.new.now c.args.course.now c.args.strings.items c.args.parcel c.requires.ready.tried c.requires.ready.proper c.requires.comes
      c.in-Ok.ensures c.take_out.ensures _ c.drop_hidden.ensures.parts c.drop_hidden.ensures.fit c.drop_hidden.ensures.map c.drop_hidden.ensures.drops c.drop_hidden.ensures.work;
  valid = tt;
  refused = near.near-refused c.requires.ready (new.stands c.draft.inside c.draft.view_is c.draft.invariant c.args.new.now c.args.course.now c.args.strings.items c.args.parcel c.requires.ready.tried c.requires.ready.proper c.requires.comes
      c.in-Ok.ensures) c.in-Some.ensures.broken;
}

pub returns : goal.returns
returns g c = record {
  made = new.done c.draft.inside c.draft.view_is c.draft.invariant c.args.new.now c.args.course.now c.args.strings.items c.args.parcel c.requires.ready.tried c.requires.ready.proper c.requires.comes c.in-Ok.ensures;
  valid = near.near-valid c.requires.ready (new.stands c.draft.inside c.draft.view_is c.draft.invariant c.args.new.now c.args.course.now c.args.strings.items c.args.parcel c.requires.ready.tried c.requires.ready.proper c.requires.comes
      c.in-Ok.ensures) c.in_default-first_broken_near.ensures.kept refl;
  refused = tt;
}
