use Rattle.std.proofs.Common.{subst, sym}
use Rattle.std.proofs.lemmas.Result.{on_ok_weaker, on_err_weaker}
use Rattle.edit_records.specs.Gridded.{IsGridOf}
use Rattle.map_parts.specs.Building.{parts_of}
use Rattle.cad_map.specs.MapRows.{map_in}
use Rattle.cad_surgery.proofs.GridBeside.{grid-fit}
use Rattle.cad_surgery.proofs.draft.Draft.enter.Goals as goal

pub invariant_of-self : goal.invariant_of-self
invariant_of-self g c =
    let in_parts = c.self.inside in
    let d = parts_of (map_in in_parts.rows) in_parts.table in_parts.kept in_parts.stars in_parts.grid in
    grid-fit d c.enter.new.grid c.self.invariant

pub returns-clause-both : goal.returns-clause-both
returns-clause-both g c =
    on_ok_weaker c.enter.result
    (λ f old new gone grid x. f old new gone (subst (λ d. IsGridOf d.grid old) (sym c.self.view_is) grid) x)
    c.enter.ensures.both

pub returns-clause-err : goal.returns-clause-err
returns-clause-err g c =
    on_err_weaker c.enter.result
    (λ f old grid. f old (subst (λ d. IsGridOf d.grid old) (sym c.self.view_is) grid))
    c.enter.ensures.err
