use Rattle.edit_records.specs.Record.{edit_of}
use Rattle.cad_map.specs.MapRows.{map_in}
use Rattle.cad_surgery.proofs.DraftMade as draft
use Rattle.cad_surgery.proofs.draft.Draft.remake_rows.Goals as goal

pub remake-requires-clause-unknown : goal.remake-requires-clause-unknown
remake-requires-clause-unknown g c = draft.all-known c.self.inside c.self.view_is (edit_of c.args.change.now) c.requires.made.allowed

pub remake-requires-clause-taken : goal.remake-requires-clause-taken
remake-requires-clause-taken g c = draft.none-taken c.self.inside c.self.view_is (edit_of c.args.change.now) c.requires.made.allowed

pub remake-requires-clause-attached : goal.remake-requires-clause-attached
remake-requires-clause-attached g c = draft.all-attached c.self.inside c.self.view_is (edit_of c.args.change.now) c.requires.made.allowed

pub invariant_of-self : goal.invariant_of-self
invariant_of-self g c =
    draft.fits c.self.inside c.self.view_is (edit_of c.args.change.now) c.self.invariant c.requires.alone c.remake.result (map_in c.remake.new.rows) c.remake.ensures.ok c.remake.ensures.err

pub returns-clause-after : goal.returns-clause-after
returns-clause-after g c =
    draft.becomes c.self.inside c.self.view_is (edit_of c.args.change.now) c.self.invariant c.requires.alone c.remake.result (map_in c.remake.new.rows) c.remake.ensures.ok c.remake.ensures.err

pub returns-clause-beside : goal.returns-clause-beside
returns-clause-beside g c =
    draft.beside c.self.inside c.self.view_is (edit_of c.args.change.now) c.self.invariant c.requires.alone c.remake.result (map_in c.remake.new.rows) c.remake.ensures.ok c.remake.ensures.err
