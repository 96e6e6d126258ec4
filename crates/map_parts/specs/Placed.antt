-- The holes of a face that pass to a new face with the ring that is put round them.
use Rattle.std.specs.Prelude.{Bool, ◌&&◌, List, map, filter, IsPermutation}
use Rattle.std.specs.List.{AllByRecursion}
use Rattle.cad_rows.specs.declared.names.Face.{Face}
use Rattle.cad_rings.specs.Cycle.{Ring, anchor_of}
use Rattle.cad_map.specs.declared.boundary.Boundary.{Boundary}
use Rattle.cad_map.specs.Boundaries.{is_face}
use Rattle.cad_map.specs.Map.{Map, is_negative, is_in_ring}
use Rattle.half_table.specs.declared.half.Half.{Half}
use Rattle.half_table.specs.Rows.{HalfRows}
use Rattle.map_parts.specs.Labels.{IsOnRing}
use Rattle.map_parts.specs.Handing.{home_of}

-- the ring is a hole whose anchor is inside the other ring
abbrev pub is_hole_in : Map → Ring → Ring → Bool
is_hole_in m ring hole = is_negative m hole && is_in_ring m ring (anchor_of hole)

-- and it is the face's
abbrev pub moves_in : Map → Face → Ring → Boundary → Bool
moves_in m face ring b = is_face face b.face && is_negative m b.ring && is_in_ring m ring (anchor_of b.ring)

-- one half of each of the face's holes in the ring, and of no other ring
pub record AreOfHoles (m : Map) (rows : HalfRows) (face : Face) (ring : Ring) (halves : List Half) : Type 0 where
  pub on : AllByRecursion (λ h. IsOnRing m rows (home_of m rows h) h) halves
  pub all : IsPermutation (map (home_of m rows) halves) (filter (moves_in m face ring) m.boundaries)
