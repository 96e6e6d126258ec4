-- The outline of a face: the ring around it, and then those around its holes.
use Rattle.std.specs.Prelude.{Bool, not, List, ◌++◌, filter, if◌then◌else◌}
use Rattle.cad_rows.specs.declared.names.Face.{Face}
use Rattle.cad_rings.specs.Cycle.{Ring}
use Rattle.cad_map.specs.Map.{Map, rings_of, is_positive}

-- the ring has positive doubled area, or it hasn't, as asked
abbrev pub is_outer : Map → Bool → Ring → Bool
is_outer m outer ring = if outer then is_positive m ring else not (is_positive m ring)

-- the rings of positive doubled area, and then the others, each in canonical order
abbrev pub outline_of : Map → Face → List Ring
outline_of m face = filter (is_positive m) (rings_of m face) ++ filter (λ r. not (is_positive m r)) (rings_of m face)
