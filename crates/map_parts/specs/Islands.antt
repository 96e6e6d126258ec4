-- An island that comes into a face, or goes from it: an enclosure, or a merger round an island.
use Rattle.std.specs.Prelude.{◌≡◌, ◌≢◌, List, ◌∷◌, map, IsPermutation}
use Rattle.std.specs.List.{AllByRecursion, Contains}
use Rattle.cad_rows.specs.declared.names.Face.{Face}
use Rattle.cad_rings.specs.Cycle.{Ring, opposite, sides_of}
use Rattle.cad_map.specs.declared.boundary.Boundary.{Boundary}
use Rattle.cad_map.specs.Boundaries.{bounding}
use Rattle.cad_map.specs.Map.{Map}
use Rattle.cad_map.specs.Merger.{handed_over}
use Rattle.half_table.specs.declared.half.Half.{Half}
use Rattle.half_table.specs.Rows.{HalfRows}
use Rattle.cad_laws.specs.Local.{IsLocal}
use Rattle.cad_laws.specs.Parting.{HasIsland}
use Rattle.map_parts.specs.Parts.{HasHalves}
use Rattle.map_parts.specs.Fits.{HaveFaces}
use Rattle.map_parts.specs.Labels.{IsOnRing}

-- the table goes with the map's rings, half by half
pub record FitsTable (m : Map) (rows : HalfRows) : Type 0 where
  pub local : IsLocal m rows
  pub ends : AllByRecursion (HasHalves rows) m.strings
  pub faces : HaveFaces m rows

-- one half, or more, of each of these rings that has the face, and of no other
pub record AreOfRings (m : Map) (rows : HalfRows) (halves : List Half) (face : Face) (bs : List Boundary) : Type 0 where
  pub each : AllByRecursion (λ h. (b : Boundary) × Contains bs b × IsOnRing m rows b h × (b.face ≡ face)) halves
  pub all : (b : Boundary) → Contains bs b → b.face ≡ face → (h : Half) × Contains halves h × IsOnRing m rows b h

-- The second map has an island in the outer face: a ring of the inner face, and the same ring back.
-- The inner face's other rings are the outer one's in the first map.
pub record IsIslandOf (whole parted : Map) (outer inner : Face) (ring : Ring) (left right : Boundary) (others : List Boundary) : Type 0 where
  pub corners : HasIsland whole parted ring
  pub differ : outer ≢ inner
  pub left_face : left.face ≡ inner
  pub right_face : right.face ≡ outer
  pub left_sides : IsPermutation (sides_of ring) (sides_of left.ring)
  pub right_sides : IsPermutation (map opposite (sides_of ring)) (sides_of right.ring)
  pub were : IsPermutation parted.boundaries (left ∷ right ∷ others)
  pub are : IsPermutation (map (handed_over outer inner) others) whole.boundaries

-- What a merger round an island takes out, read from the map after it to the one before: the ended
-- face's ring leads round these points.
abbrev pub IsTakenIsland : Map → Map → Face → Face → Ring → Ring → Ring → Type 0
IsTakenIsland m after kept ended points k e =
    (others : List Boundary) × IsIslandOf after m kept ended points (bounding ended e) (bounding kept k) others
