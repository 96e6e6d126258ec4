use Rattle.std.proofs.Common.{◌≡◌, ◌++◌, map, take}
use Rattle.cad_valid.specs.Placed.{placed_point}
use Rattle.cad_valid.proofs.swept.put_points.Given as goal

-- the points before this one are put
abbrev pub invariant-loop-place : goal.invariant-loop-place
invariant-loop-place l = l.items.items ≡ l.fn.items.items ++ map placed_point (take l.place l.map.points)
