use Rattle.std.proofs.Common.{sym, subst}
use Rattle.cad_map.specs.Asked.{GivesInRange}
use Rattle.edit_records.specs.declared.record.SmallRecord.{SmallRecord}
use Rattle.edit_records.specs.Record.{edit_of, Belongs}
use Rattle.map_parts.specs.Parts.{map_of}
use Rattle.cad_surgery.specs.Trials.{IsTakenBack, StandsBeside}
use Rattle.cad_surgery.proofs.edits.try_join.back_join.Goals as goal

pub unjoin_with-requires-clause-given : goal.unjoin_with-requires-clause-given
unjoin_with-requires-clause-given g c = subst (λ (r : SmallRecord). GivesInRange (edit_of r)) c.in_ok-joined.ensures c.requires.given

pub unjoin_with-requires-clause-beside : goal.unjoin_with-requires-clause-beside
unjoin_with-requires-clause-beside g c =
    subst (λ (r : SmallRecord). StandsBeside (λ m. Belongs r m (map_of c.args.draft.now)) c.args.draft.now) c.in_ok-joined.ensures c.requires.beside

pub returns : goal.returns
returns g c =
    subst (λ (r : SmallRecord). IsTakenBack (λ m. Belongs r m (map_of c.args.draft.now)) c.args.draft.now c.unjoin_with.new.draft c.unjoin_with.result)
    (sym c.in_ok-joined.ensures) c.unjoin_with.ensures
