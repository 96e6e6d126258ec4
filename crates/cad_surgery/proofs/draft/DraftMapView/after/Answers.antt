use Rattle.std.proofs.Common.{◌≡◌, sym, subst, ap, ◌∙◌}
use Rattle.half_table.specs.declared.half.Half.{Half}
use Rattle.half_table.specs.Half.{twin}
use Rattle.half_table.specs.Rows.{next, origin_of}
use Rattle.cad_rings.specs.Cycle.{Side}
use Rattle.cad_map.specs.Views.{ComesAfter}
use Rattle.map_parts.specs.Parts.{Parts, rows_of, map_of}
use Rattle.map_parts.specs.Labels.{IsAlong}
use Rattle.cad_surgery.proofs.PartsStars.{along-after}
use Rattle.cad_surgery.proofs.draft.DraftMapView.after.Goals as goal

pub returns-clause-some : goal.returns-clause-some
returns-clause-some g c =
    let side : Side = (c.args.from, c.args.to) in
    let half = c.in_ok-half.half in
    let along = subst (λ (d : Parts). IsAlong (rows_of d) d.table.rows side half) (sym c.self.view_is) c.in_ok-half.ensures.some in
    let comes = subst (λ (d : Parts). ComesAfter (map_of d) side (origin_of d.table.rows (twin (next d.table.rows half)))) c.self.view_is (along-after _ c.self.invariant side half along) in
    let far = c.far_in.ensures ∙ ap (λ (h : Half). origin_of c.args.self.now.table.rows (twin h)) (subst (λ (d : Parts). c.next-after.result ≡ next d.table.rows half) c.self.view_is c.next-after.ensures.is) in
    subst (ComesAfter (map_of c.args.self.now) side) (sym far) comes
