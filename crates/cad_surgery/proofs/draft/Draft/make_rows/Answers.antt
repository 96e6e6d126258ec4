use Rattle.std.proofs.Common.{subst}
use Rattle.std.specs.Prelude.{IfOk}
use Rattle.cad_map.proofs.CallerLemmas.{allowed}
use Rattle.map_parts.specs.Parts.{map_of}
use Rattle.edit_records.specs.Record.{Holds}
use Rattle.cad_map.specs.MapRows.{map_in}
use Rattle.cad_surgery.proofs.DraftMade as draft
use Rattle.cad_surgery.proofs.DraftRows.{held-rows}
use Rattle.cad_surgery.proofs.FitParts.{parts-in}
use Rattle.cad_surgery.proofs.draft.Draft.make_rows.Goals as goal

pub make-requires-clause-range : goal.make-requires-clause-range
make-requires-clause-range g c = (allowed (map_of c.args.self.now) c.args.edit.now c.requires.tried.allowed).range

pub make-requires-clause-unknown : goal.make-requires-clause-unknown
make-requires-clause-unknown g c = draft.all-known c.self.inside c.self.view_is c.args.edit.now c.requires.tried.allowed

pub make-requires-clause-taken : goal.make-requires-clause-taken
make-requires-clause-taken g c = draft.none-taken c.self.inside c.self.view_is c.args.edit.now c.requires.tried.allowed

pub make-requires-clause-attached : goal.make-requires-clause-attached
make-requires-clause-attached g c = draft.all-attached c.self.inside c.self.view_is c.args.edit.now c.requires.tried.allowed

pub invariant_of-self : goal.invariant_of-self
invariant_of-self g c =
    draft.fits c.self.inside c.self.view_is c.args.edit.now c.self.invariant c.requires.alone c.make.result (map_in c.make.new.rows) c.make.ensures.ok c.make.ensures.err

pub returns-clause-made : goal.returns-clause-made
returns-clause-made g c =
    draft.becomes c.self.inside c.self.view_is c.args.edit.now c.self.invariant c.requires.alone c.make.result (map_in c.make.new.rows) c.make.ensures.ok c.make.ensures.err

pub returns-clause-beside : goal.returns-clause-beside
returns-clause-beside g c =
    draft.beside c.self.inside c.self.view_is c.args.edit.now c.self.invariant c.requires.alone c.make.result (map_in c.make.new.rows) c.make.ensures.ok c.make.ensures.err

pub returns-clause-holds : goal.returns-clause-holds
returns-clause-holds g c =
    subst (λ q. IfOk c.make.result (λ r. Holds r (map_of q))) c.self.view_is
    (held-rows (map_of (parts-in c.self.inside)) c.args.edit.now c.requires.alone c.make.result c.make.ensures.edit c.make.ensures.holds)
