-- Well-known text: points, lines and polygons as the OGC's Simple Features write them, in metres.
use Rattle.std.specs.Prelude.{ℕ, ◌==◌, List, [], ◌∷◌, ◌++◌, map, filter, take, true, false, codes, if◌then◌else◌}
use Rattle.std.specs.List.{join_with_byte}
use Rattle.geo_exact.specs.Position.{Position}
use Rattle.cad_rings.specs.Cycle.{Ring}
use Rattle.cad_map.specs.Map.{Map, position_of}
use Rattle.cad_map.specs.Outline.{is_outer}
use Rattle.cad_views.specs.Metres.{metres_field}

-- the coordinates of a position, x first
unfoldable pub coordinates : Position → List ℕ
coordinates p = metres_field p.x ++ (codes " " ++ metres_field p.y)

-- what stands before the part at a place of several
abbrev pub separator : ℕ → List ℕ
separator place = if place == 0 then [] else codes ","

-- the coordinates of points, one after another
unfoldable pub coordinates_along : Map → List ℕ → List ℕ
coordinates_along m points = join_with_byte 44 (map (λ p. coordinates (position_of m p)) points)

-- a ring, closed by its first point
unfoldable pub ring_text : Map → Ring → List ℕ
ring_text m ring = codes "(" ++ (coordinates_along m (ring ++ take 1 ring) ++ codes ")")

-- those of positive doubled area first, and then the others, the holes
abbrev pub outlines_first : Map → List Ring → List Ring
outlines_first m rings = filter (is_outer m true) rings ++ filter (is_outer m false) rings

unfoldable pub point_geometry : Position → List ℕ
point_geometry p = codes "POINT(" ++ (coordinates p ++ codes ")")

unfoldable pub line_geometry : Map → ℕ → ℕ → List ℕ
line_geometry m a b = codes "LINESTRING(" ++ (coordinates_along m (a ∷ b ∷ []) ++ codes ")")

-- rings that pass no point twice, as one polygon: the outline, and then the holes
unfoldable pub polygon_geometry : Map → List Ring → List ℕ
polygon_geometry m rings =
    codes "POLYGON(" ++ (join_with_byte 44 (map (ring_text m) (outlines_first m rings)) ++ codes ")")
