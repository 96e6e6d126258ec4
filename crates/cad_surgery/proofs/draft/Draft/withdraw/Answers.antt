use Rattle.std.proofs.Common.{subst, sym}
use Rattle.edit_records.specs.Exchanged.{IsGridOfBoth}
use Rattle.map_parts.specs.Building.{parts_of}
use Rattle.cad_map.specs.MapRows.{map_in}
use Rattle.cad_surgery.proofs.GridBeside.{grid-fit}
use Rattle.cad_surgery.proofs.draft.Draft.withdraw.Goals as goal

pub invariant_of-self : goal.invariant_of-self
invariant_of-self g c =
    let in_parts = c.self.inside in
    let d = parts_of (map_in in_parts.rows) in_parts.table in_parts.kept in_parts.stars in_parts.grid in
    grid-fit d c.withdraw.new.grid c.self.invariant

pub returns-clause-left : goal.returns-clause-left
returns-clause-left g c old new come both x =
    c.withdraw.ensures old new come (subst (λ d. IsGridOfBoth d.grid old new) (sym c.self.view_is) both) x
