use Rattle.std.proofs.Common.{subst, sym}
use Rattle.cad_laws.specs.Tried.{IsTried}
use Rattle.edit_records.specs.declared.record.SmallRecord.{SmallRecord}
use Rattle.edit_records.specs.Record.{edit_of}
use Rattle.map_parts.specs.Parts.{map_of}
use Rattle.cad_surgery.specs.Trials.{IsMade}
use Rattle.cad_surgery.proofs.GridSteps.{made-by, tried-of}
use Rattle.cad_surgery.proofs.edits.try_split.forward_split.Goals as goal

pub split_again-requires-clause-tried : goal.split_again-requires-clause-tried
split_again-requires-clause-tried g c =
    let m = map_of c.args.draft.now in
    subst (λ (r : SmallRecord). IsTried m (edit_of r)) c.split_told-told.ensures
    (tried-of c.args.change.now m (made-by c.args.change.now m c.requires.beside.made.0 c.requires.beside.made.1) c.requires.given)

pub returns : goal.returns
returns g c =
    subst (λ (r : SmallRecord). IsMade (edit_of r) c.args.draft.now c.split_again.new.draft c.split_again.result) (sym c.split_told-told.ensures) c.split_again.ensures
