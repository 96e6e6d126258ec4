-- The two rings that a chain makes of the ring that it divides.
use Rattle.std.specs.Prelude.{ℕ, List}
use Rattle.cad_rings.specs.Cycle.{Ring, Corner}
use Rattle.cad_rings.specs.Surgery.{left_ring, right_ring}
use Rattle.cad_map.specs.declared.boundary.Boundary.{Boundary}
use Rattle.cad_map.specs.Chain.{leaving, inner_of}
use Rattle.cad_map.specs.Division.{place_of, ring_with}

-- the ring to the left of a chain from one corner to another, of these rings
abbrev pub left_of : List Boundary → List ℕ → Corner → Corner → Ring
left_of bs chain first last =
    let cut = ring_with (leaving first) bs in
    left_ring (place_of (leaving first) cut) (place_of (leaving last) cut) (inner_of chain) cut

-- the ring to its right
abbrev pub right_of : List Boundary → List ℕ → Corner → Corner → Ring
right_of bs chain first last =
    let cut = ring_with (leaving first) bs in
    right_ring (place_of (leaving first) cut) (place_of (leaving last) cut) (inner_of chain) cut
