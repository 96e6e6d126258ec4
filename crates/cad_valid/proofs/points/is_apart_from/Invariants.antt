use Rattle.std.proofs.Common.{◌≡◌, drop, not}
use Rattle.std.specs.List.{list_all}
use Rattle.cad_map.specs.Valid.{is_same_position}
use Rattle.cad_rows.specs.declared.rows.PointRow.{PointRow}
use Rattle.cad_valid.proofs.points.is_apart_from.Given as goal

-- the points that are left decide
abbrev pub invariant-loop-place : goal.invariant-loop-place
invariant-loop-place g l =
    let points = (g.M.MapView.map l.map).points in
    let apart = λ (r : PointRow). not (is_same_position l.position r.position) in
    list_all apart (drop l.from points) ≡ list_all apart (drop l.place points)
