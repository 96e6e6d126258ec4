-- A chain divides a face in two, and a closed chain makes an island in it.
use Rattle.std.specs.Prelude.{ℕ, ◌&&◌, List, [], ◌∷◌, reverse, not, map, filter, if◌then◌else◌, unwrap_or, position}
use Rattle.cad_rows.specs.declared.names.Face.{Face}
use Rattle.cad_rings.specs.Cycle.{Ring, Side, is_side, has_side, sides_of, Corner, anchor_of}
use Rattle.cad_rings.specs.Surgery.{left_ring, right_ring}
use Rattle.cad_map.specs.declared.boundary.Boundary.{Boundary}
use Rattle.cad_map.specs.Boundaries.{is_face, bounding}
use Rattle.cad_map.specs.Map.{Map, is_negative, is_in_ring}
use Rattle.cad_map.specs.Chain.{leaving, inner_of}

-- the place of a side in a ring, and so of the point that it leaves
abbrev pub place_of : Side → Ring → ℕ
place_of side ring = unwrap_or (position (is_side side) (sides_of ring)) 0

-- a hole of the face whose anchor is inside the new ring goes to the new face, and every other ring stays
abbrev pub hole_placed : Map → Face → Face → Ring → Boundary → Boundary
hole_placed m face new ring b =
    if is_face face b.face && is_negative m b.ring && is_in_ring m ring (anchor_of b.ring) then bounding new b.ring else b

-- the first of these rings that has the side
abbrev pub ring_with : Side → List Boundary → Ring
ring_with side [] = []
ring_with side (b ∷ bs) = if has_side side (sides_of b.ring) then b.ring else ring_with side bs

-- The boundaries after the division of the face along the chain, from one corner to another of the same ring: what is left of the chain goes to the new face.
abbrev pub boundaries_divided : Map → Face → Face → List ℕ → Corner → Corner → List Boundary
boundaries_divided m face new chain first last =
    let cut = ring_with (leaving first) m.boundaries in
    let i = place_of (leaving first) cut in
    let j = place_of (leaving last) cut in
    let left = left_ring i j (inner_of chain) cut in
    let right = right_ring i j (inner_of chain) cut in
    bounding new left ∷ bounding face right
    ∷ map (hole_placed m face new left) (filter (λ b. not (has_side (leaving first) (sides_of b.ring))) m.boundaries)

-- the boundaries after the list of points is made an island of the face
abbrev pub boundaries_enclosed : Map → Face → Face → Ring → List Boundary
boundaries_enclosed m face new ring = bounding new ring ∷ bounding face (reverse ring) ∷ map (hole_placed m face new ring) m.boundaries
