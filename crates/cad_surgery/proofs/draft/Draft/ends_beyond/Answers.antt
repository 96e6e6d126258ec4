use Rattle.std.proofs.Common.{sym, subst}
use Rattle.half_table.specs.Half.{twin}
use Rattle.half_table.specs.Rows.{origin_of}
use Rattle.cad_map.specs.Views.{AreBeyond}
use Rattle.cad_laws.specs.Local.{IsShown}
use Rattle.map_parts.specs.Parts.{Parts, rows_of, map_of}
use Rattle.map_parts.proofs.PartsRings.{in_table}
use Rattle.cad_surgery.proofs.PartsBeyond.{half-beyond}
use Rattle.cad_surgery.proofs.draft.Draft.ends_beyond.Goals as goal

pub prev-before-requires : goal.prev-before-requires
prev-before-requires g c =
    let h = c.args.half.now in
    rw c.twin.ensures.inside (in_table _ c.self.invariant h (subst (λ (d : Parts). IsShown (rows_of d) h) (sym c.self.view_is) c.requires))

pub next-requires : goal.next-requires
next-requires g c =
    let h = c.args.half.now in
    in_table _ c.self.invariant h (subst (λ (d : Parts). IsShown (rows_of d) h) (sym c.self.view_is) c.requires)

pub returns : goal.returns
returns g c =
    let h = c.args.half.now in
    let shown = subst (λ (d : Parts). IsShown (rows_of d) h) (sym c.self.view_is) c.requires in
    subst (λ (d : Parts). AreBeyond (map_of d) (origin_of d.table.rows h) (origin_of d.table.rows (twin h)) c.origin.result c.origin-2.result) c.self.view_is
    (rw (c.origin.ensures, c.origin-2.ensures, c.prev-before.ensures.is, c.twin.ensures.is, c.twin-after.ensures.is, c.next.ensures.is)
    (half-beyond _ c.self.invariant h shown))
