use Rattle.std.proofs.Common.{subst}
use Rattle.cad_map.specs.Asked.{GivesInRange}
use Rattle.edit_records.specs.declared.record.SmallRecord.{SmallRecord}
use Rattle.edit_records.specs.Record.{edit_of, Belongs}
use Rattle.map_parts.specs.Parts.{map_of}
use Rattle.cad_surgery.proofs.GridSteps.{made-by}
use Rattle.cad_surgery.proofs.Trials.{taken-so}
use Rattle.cad_surgery.proofs.edits.try_split.back_split.Goals as goal

pub unsplit_with-requires-clause-given : goal.unsplit_with-requires-clause-given
unsplit_with-requires-clause-given g c = subst (λ (r : SmallRecord). GivesInRange (edit_of r)) c.split_told-told.ensures c.requires.given

pub unsplit_with-requires-clause-beside : goal.unsplit_with-requires-clause-beside
unsplit_with-requires-clause-beside g c =
    let b = c.requires.beside.made.0 in
    let n = map_of c.args.draft.now in
    let belongs = subst (λ (r : SmallRecord). Belongs r b n) c.split_told-told.ensures c.requires.beside.made.1 in
    record { made = (b, (made-by _ b n belongs, belongs.leads.is)); proper = c.requires.beside.proper }

pub returns : goal.returns
returns g c =
    let n = map_of c.args.draft.now in
    taken-so (λ m was. let belongs = subst (λ (r : SmallRecord). Belongs r m n) c.split_told-told.ensures was in (made-by _ m n belongs, belongs.leads.is)) c.unsplit_with.ensures
