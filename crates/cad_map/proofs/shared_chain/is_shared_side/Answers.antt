use Rattle.std.proofs.Common.{sym, ap, ◌∙◌, Bool}
use Rattle.std.specs.Prelude.{◌&&◌}
use Rattle.cad_rings.specs.Cycle.{Side}
use Rattle.cad_map.specs.Map.{face_sides}
use Rattle.cad_map.specs.Steps.{has_twin_in}
use Rattle.cad_map.proofs.SharedChains.NextSides.{has_side-filter}
use Rattle.cad_map.proofs.shared_chain.is_shared_side.Goals as goal

pub returns-then-has_twin_in : goal.returns-then-has_twin_in
returns-then-has_twin_in g c =
    let m = g.M.MapView.map c.args.map.now in
    let side : Side = (c.args.from, c.args.to) in
    let beyond = has_twin_in m c.args.ended.now in
    c.has_twin_in-then-has_twin_in.ensures ∙ sym (ap (λ (b : Bool). b && beyond side) (sym c.has_twin_in.ensures ∙ c.if-has_twin_in.true)) ∙ has_side-filter beyond side (face_sides m c.args.kept.now)

pub returns-else-has_twin_in : goal.returns-else-has_twin_in
returns-else-has_twin_in g c =
    let m = g.M.MapView.map c.args.map.now in
    let side : Side = (c.args.from, c.args.to) in
    let beyond = has_twin_in m c.args.ended.now in
    c.if-has_twin_in.false ∙ sym (ap (λ (b : Bool). b && beyond side) (sym c.has_twin_in.ensures ∙ c.if-has_twin_in.false)) ∙ has_side-filter beyond side (face_sides m c.args.kept.now)
