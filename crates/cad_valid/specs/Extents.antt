-- Positions in boxes.
use Rattle.std.specs.Prelude.{pos, ◌+ℤ◌, ◌≤ℤ◌}
use Rattle.geo_exact.specs.Position.{Position, coordinate_limit}
use Rattle.sweep.specs.declared.extent.Extent.{Extent}

-- the position lies in the box, whose coordinates are counted from the least that there can be
pub record IsWithin (e : Extent) (p : Position) : Type 0 where
  pub left : pos e.left ≤ℤ (p.x +ℤ coordinate_limit)
  pub right : (p.x +ℤ coordinate_limit) ≤ℤ pos e.right
  pub bottom : pos e.bottom ≤ℤ (p.y +ℤ coordinate_limit)
  pub top : (p.y +ℤ coordinate_limit) ≤ℤ pos e.top
