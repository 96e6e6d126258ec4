use Rattle.std.proofs.Common.{◌∙◌, sym, ap, not}
use Rattle.cad_rows.specs.declared.rows.PointRow.{PointRow}
use Rattle.cad_map.specs.Valid.{is_same_position}
use Rattle.cad_valid.proofs.Tests.{all-stops, all-goes}
use Rattle.cad_valid.proofs.points.is_apart_from.Goals as goal

pub returns-then-is_same : goal.returns-then-is_same
returns-then-is_same g c =
    let at = rw c.unwrap-point.ensures at c.point_at.ensures in
    sym (c.loop-place.invariant
    ∙ all-stops (λ (r : PointRow). not (is_same_position c.args.position r.position)) (g.M.MapView.map c.args.map.now).points c.loop-place.place _ (sym at) (ap not (sym c.is_same.ensures ∙ c.if-is_same.true)))

pub loop-place-preserved : goal.loop-place-preserved
loop-place-preserved g c =
    let at = rw c.unwrap-point.ensures at c.point_at.ensures in
    c.loop-place.invariant
    ∙ all-goes (λ (r : PointRow). not (is_same_position c.args.position r.position)) (g.M.MapView.map c.args.map.now).points c.loop-place.place _ (sym at) (ap not (sym c.is_same.ensures ∙ c.if-is_same.false))
