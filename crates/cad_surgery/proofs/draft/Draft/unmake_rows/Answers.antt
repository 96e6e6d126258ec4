use Rattle.std.proofs.lemmas.Result.{on_ok_weaker}
use Rattle.edit_records.specs.Record.{edit_of}
use Rattle.cad_map.specs.MapRows.{map_in}
use Rattle.cad_surgery.proofs.DraftMade as draft
use Rattle.cad_surgery.proofs.draft.Draft.unmake_rows.Goals as goal

pub unmake-requires-clause-made : goal.unmake-requires-clause-made
unmake-requires-clause-made g c =
    let b = c.requires.made in
    let each = b.1.valid.sound.v1.strings.distinct in
    (b.0, b.1, draft.rows-were c.self.inside c.self.view_is (edit_of c.args.change.now) c.self.invariant c.requires.alone b.0 each b.2)

pub invariant_of-self : goal.invariant_of-self
invariant_of-self g c =
    let b = c.requires.made in
    let e = edit_of c.args.change.now in
    let each = b.1.valid.sound.v1.strings.distinct in
    let were = draft.rows-were c.self.inside c.self.view_is e c.self.invariant c.requires.alone b.0 each b.2 in
    draft.fits-back c.self.inside c.self.view_is e c.self.invariant c.requires.alone b.0 each b.2 c.unmake.result (map_in c.unmake.new.rows)
    (on_ok_weaker c.unmake.result (λ f. f b.0 b.1 were) c.unmake.ensures.ok) c.unmake.ensures.err

pub returns-clause-before : goal.returns-clause-before
returns-clause-before g c =
    let e = edit_of c.args.change.now in
    on_ok_weaker c.unmake.result
    (λ f m made is.
    let each = made.valid.sound.v1.strings.distinct in
    let were = draft.rows-were c.self.inside c.self.view_is e c.self.invariant c.requires.alone m each is in
    draft.back-to c.self.inside c.self.view_is e c.self.invariant c.requires.alone m each is (map_in c.unmake.new.rows) (f m made were))
    c.unmake.ensures.ok

pub returns-clause-beside : goal.returns-clause-beside
returns-clause-beside g c =
    let b = c.requires.made in
    let e = edit_of c.args.change.now in
    let each = b.1.valid.sound.v1.strings.distinct in
    let were = draft.rows-were c.self.inside c.self.view_is e c.self.invariant c.requires.alone b.0 each b.2 in
    draft.beside-back c.self.inside c.self.view_is e c.self.invariant c.requires.alone b.0 each b.2 c.unmake.result (map_in c.unmake.new.rows)
    (on_ok_weaker c.unmake.result (λ f. f b.0 b.1 were) c.unmake.ensures.ok) c.unmake.ensures.err
