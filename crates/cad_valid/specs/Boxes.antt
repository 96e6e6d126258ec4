-- Boxes of strings and points.
use Rattle.std.specs.Prelude.{ℕ, ℤ, ◌+ℤ◌, unsigned_abs, min, max}
use Rattle.geo_exact.specs.Position.{coordinate_limit}
use Rattle.sweep.specs.declared.extent.Extent.{Extent}
use Rattle.cad_valid.specs.declared.placed.Placed.{Placed}

-- a coordinate, counted from the least that there can be
abbrev pub from_least : ℤ → ℕ
from_least z = unsigned_abs (z +ℤ coordinate_limit)

-- the least box that has both ends
abbrev pub box_of : Placed → Extent
box_of f =
    record {
      left = min (from_least f.a.x) (from_least f.b.x);
      right = max (from_least f.a.x) (from_least f.b.x);
      bottom = min (from_least f.a.y) (from_least f.b.y);
      top = max (from_least f.a.y) (from_least f.b.y);
    }
