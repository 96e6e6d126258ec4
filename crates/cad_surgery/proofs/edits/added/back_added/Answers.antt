use Rattle.std.proofs.Common.{◌∙◌}
use Rattle.map_parts.specs.Parts.{map_of}
use Rattle.cad_surgery.proofs.AddedBack.{by-record}
use Rattle.cad_surgery.proofs.Trials.{stays-whole, taken-so}
use Rattle.cad_surgery.proofs.edits.added.back_added.Goals as goal

pub take_back-requires-clause-path : goal.take_back-requires-clause-path
take_back-requires-clause-path g c = c.as_slice.ensures.value ∙ c.in_ok-path.ensures

pub take_back-requires-clause-beside : goal.take_back-requires-clause-beside
take_back-requires-clause-beside g c = record {
  made = (
    c.requires.beside.made.0,
    by-record c.args.change.now c.parcel_told-told.result c.parcel_told-told.ensures c.requires.given
        c.requires.beside.made.0 (map_of c.args.draft.now) c.requires.beside.made.1,
  );
  proper = c.requires.beside.proper;
}

pub returns-in_err-path : goal.returns-in_err-path
returns-in_err-path g c = stays-whole _ _ _ c.from_residual.ensures.0 c.requires.beside.proper

pub returns : goal.returns
returns g c =
    taken-so (λ m belongs. by-record c.args.change.now c.parcel_told-told.result c.parcel_told-told.ensures c.requires.given
    m (map_of c.args.draft.now) belongs) c.take_back.ensures
