use Rattle.std.proofs.Common.{◌≡◌, drop, not}
use Rattle.cad_map.specs.Valid.{is_same_position, each_pair}
use Rattle.cad_rows.specs.declared.rows.PointRow.{PointRow}
use Rattle.cad_valid.proofs.points.has_distinct_positions.Given as goal

-- the points that are left decide
abbrev pub invariant-loop-place : goal.invariant-loop-place
invariant-loop-place g l =
    let points = (g.M.MapView.map l.map).points in
    let apart = λ (a b : PointRow). not (is_same_position a.position b.position) in
    each_pair apart points ≡ each_pair apart (drop l.place points)
