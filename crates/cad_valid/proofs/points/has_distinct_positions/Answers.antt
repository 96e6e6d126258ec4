use Rattle.std.proofs.Common.{◌∙◌, sym, not}
use Rattle.cad_rows.specs.declared.rows.PointRow.{PointRow}
use Rattle.cad_map.specs.Valid.{is_same_position}
use Rattle.cad_valid.proofs.Tests.{pairs-stop, pairs-go}
use Rattle.cad_valid.proofs.points.has_distinct_positions.Goals as goal

pub returns-then-not-is_apart_from : goal.returns-then-not-is_apart_from
returns-then-not-is_apart_from g c =
    let at = rw c.unwrap-point.ensures at c.point_at.ensures in
    sym (c.loop-place.invariant
    ∙ pairs-stop (λ (a b : PointRow). not (is_same_position a.position b.position)) (g.M.MapView.map c.args.map.now).points c.loop-place.place _ (sym at) (sym c.is_apart_from.ensures ∙ c.if-not-is_apart_from.true))

pub loop-place-preserved : goal.loop-place-preserved
loop-place-preserved g c =
    let at = rw c.unwrap-point.ensures at c.point_at.ensures in
    c.loop-place.invariant
    ∙ pairs-go (λ (a b : PointRow). not (is_same_position a.position b.position)) (g.M.MapView.map c.args.map.now).points c.loop-place.place _ (sym at) (sym c.is_apart_from.ensures ∙ c.if-not-is_apart_from.false)
