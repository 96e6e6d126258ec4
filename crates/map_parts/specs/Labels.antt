-- Halves with the faces of a map's rings, and one half of each ring.
use Rattle.std.specs.Prelude.{◌≡◌, true, ⊤, ℕ, ◌==◌, List, [], ◌∷◌, filter, slice_index}
use Rattle.std.specs.List.{Contains}
use Rattle.cad_rings.specs.Cycle.{Ring, Side, sides_of, turned}
use Rattle.cad_map.specs.declared.boundary.Boundary.{Boundary}
use Rattle.cad_map.specs.Boundaries.{face_place}
use Rattle.cad_map.specs.Map.{Map}
use Rattle.cad_map.specs.Steps.{next_side}
use Rattle.half_table.specs.declared.half.Half.{Half}
use Rattle.half_table.specs.Rows.{HalfRows, has, face}
use Rattle.cad_laws.specs.Local.{IsShown, side_by}
use Rattle.key_lists.specs.Held.{Held, items_at}
use Rattle.map_parts.specs.declared.stars.Spoke.{Spoke}
use Rattle.map_parts.specs.Building.{HoldsStrings}

-- the half is of one of the map's strings, and leads along the side
pub record IsAlong (m : Map) (rows : HalfRows) (s : Side) (h : Half) : Type 0 where
  pub there : has rows h ≡ true
  pub shown : IsShown m h
  pub side : side_by rows h ≡ s

-- the half is along the side, in whatever table these stars are of
abbrev pub IsHalfAlong : Map → Held Spoke → Side → Half → Type 0
IsHalfAlong m stars s h = (rows : HalfRows) → HoldsStrings m rows stars → IsAlong m rows s h

-- the half is along the side before this one on its ring
abbrev pub IsHalfBefore : Map → Held Spoke → Side → Half → Type 0
IsHalfBefore m stars s h = (p : Side) × (next_side m p ≡ s) × IsHalfAlong m stars p h

-- the side of a ring that begins at a place
abbrev pub side_at : ℕ → Ring → Side
side_at i ring = (slice_index (turned i ring) 0, slice_index (turned i ring) 1)

-- the half is along a side of the ring
pub record IsOnRing (m : Map) (rows : HalfRows) (b : Boundary) (h : Half) : Type 0 where
  pub shown : IsShown m h
  pub side : Contains (sides_of b.ring) (side_by rows h)

-- the half is along a side of the ring, in whatever table these stars are of
abbrev pub IsHalfOnRing : Map → Held Spoke → Boundary → Half → Type 0
IsHalfOnRing m stars b h = (rows : HalfRows) → HoldsStrings m rows stars → IsOnRing m rows b h

-- the halves along the ring have its face
abbrev pub IsLabelled : Map → HalfRows → Boundary → Type 0
IsLabelled m rows b = (h : Half) → IsOnRing m rows b h → face rows h ≡ b.face

-- ---- One half of each ring

-- each half is on the ring at its place
abbrev pub AreOnRings : Map → HalfRows → List Half → List Boundary → Type 0
AreOnRings m rows [] [] = ⊤
AreOnRings m rows (h ∷ hs) (b ∷ bs) = IsOnRing m rows b h × AreOnRings m rows hs bs
AreOnRings m rows [] (b ∷ bs) = ⊥
AreOnRings m rows (h ∷ hs) [] = ⊥

-- those of these rings whose face has the place
abbrev pub rings_placed : ℕ → List Boundary → List Boundary
rings_placed n bs = filter (λ b. face_place b.face == n) bs

-- under the place of each face there is one half of each of its rings
abbrev pub HoldsRings : Map → HalfRows → Held Half → List Boundary → Type 0
HoldsRings m rows kept bs = (n : ℕ) → AreOnRings m rows (items_at kept n) (rings_placed n bs)
