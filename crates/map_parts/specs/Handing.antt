-- Halves that are kept of rings, by the faces that they have.
use Rattle.std.specs.Prelude.{◌≡◌, ◌≢◌, ℕ, ◌+◌, ◌≤◌, length, true, false, Bool, not, ◌==◌, List, [], ◌∷◌, ◌++◌, map, filter, find, unwrap_or, IsPermutation}
use Rattle.std.specs.List.{AllByRecursion, Contains, flat_map}
use Rattle.cad_rows.specs.declared.names.Face.{Face}
use Rattle.cad_rows.specs.declared.names.Face.TheVariants.{Outside}
use Rattle.cad_rings.specs.Cycle.{has_side, sides_of}
use Rattle.cad_map.specs.declared.boundary.Boundary.{Boundary}
use Rattle.cad_map.specs.Boundaries.{face_place, bounding, is_face}
use Rattle.cad_map.specs.Map.{Map, faces, has_face}
use Rattle.cad_laws.specs.Local.{side_by}
use Rattle.map_parts.specs.Labels.{IsOnRing}
use Rattle.half_table.specs.declared.half.Half.{Half}
use Rattle.half_table.specs.Rows.{HalfRows, face, has, origin_of}
use Rattle.key_lists.specs.Held.{Held, items_at, capacity_at}

-- whether the half's face has the place
abbrev pub is_placed : HalfRows → ℕ → Half → Bool
is_placed rows n h = face_place (face rows h) == n

-- the halves under one place whose face has the other are under that one, and nothing else has changed
pub record HandsOver (rows : HalfRows) (from to : ℕ) (old new : Held Half) : Type 0 where
  pub gone : List Half
  pub split : IsPermutation (items_at old from) (gone ++ items_at new from)
  pub got : items_at new to ≡ items_at old to ++ gone
  pub goes : AllByRecursion (λ h. is_placed rows to h ≡ true) gone
  pub stays : AllByRecursion (λ h. is_placed rows to h ≡ false) (items_at new from)
  pub others : (n : ℕ) → ¬ (from ≡ n) → ¬ (to ≡ n) → items_at new n ≡ items_at old n

-- ---- One half of each ring

-- the ring that a half is on
abbrev pub home_of : Map → HalfRows → Half → Boundary
home_of m rows h = unwrap_or (find (λ b. has_side (side_by rows h) (sides_of b.ring)) m.boundaries) (bounding Outside [])

-- the halves that are kept for the map's faces
abbrev pub halves_kept : Map → Held Half → List Half
halves_kept m held = flat_map (λ f. items_at held (face_place f)) (faces m)

-- under the place of each face one half of each of its rings is kept
pub record KeepsEach (m : Map) (rows : HalfRows) (held : Held Half) : Type 0 where
  pub on : (f : Face) (h : Half) → Contains (items_at held (face_place f)) h
      → (b : Boundary) × Contains m.boundaries b × IsOnRing m rows b h × (b.face ≡ f)
  pub all : IsPermutation (map (home_of m rows) (halves_kept m held)) m.boundaries
  pub none : (f : Face) → has_face m f ≡ false → items_at held (face_place f) ≡ []

-- the second map has the inner face more, and both have the outer one
pub record HaveTwoFaces (whole parted : Map) (outer inner : Face) : Type 0 where
  pub rest : filter (λ f. not (is_face inner f)) (faces parted) ≡ faces whole
  pub inner_there : Contains (faces parted) inner
  pub outer_there : Contains (faces whole) outer

-- ---- The ring that has no kept half

-- the one half is under the inner place if none was, and else the other is under the outer place
pub record KeepsBoth (inner outer : ℕ) (own other : Half) (old new : Held Half) : Type 0 where
  pub none : items_at old inner ≡ [] → (items_at new inner ≡ own ∷ []) × (items_at new outer ≡ items_at old outer)
  pub some : items_at old inner ≢ [] → (items_at new inner ≡ items_at old inner) × (items_at new outer ≡ items_at old outer ++ other ∷ [])
  pub others : (n : ℕ) → ¬ (outer ≡ n) → ¬ (inner ≡ n) → items_at new n ≡ items_at old n

-- those under the inner place are gone, and if there were any the half is under the outer place
pub record KeepsOne (inner outer : ℕ) (half : Half) (old new : Held Half) : Type 0 where
  pub gone : items_at new inner ≡ []
  pub none : items_at old inner ≡ [] → items_at new outer ≡ items_at old outer
  pub some : items_at old inner ≢ [] → items_at new outer ≡ items_at old outer ++ half ∷ []
  pub others : (n : ℕ) → ¬ (outer ≡ n) → ¬ (inner ≡ n) → items_at new n ≡ items_at old n

-- ---- What stays

-- the halves of a table stay, and each begins where it began
pub record KeepsEnds (old new : HalfRows) : Type 0 where
  -- the same halves are there
  pub has : (h : Half) → has new h ≡ has old h
  -- each has its origin
  pub origin : (h : Half) → origin_of new h ≡ origin_of old h

-- of the rings of two faces no more halves are kept than were, and there is room for as many
pub record KeepsNoMore (inner outer : ℕ) (old new : Held Half) : Type 0 where
  -- together the two have no more
  pub few : length (items_at new inner) + length (items_at new outer) ≤ length (items_at old inner) + length (items_at old outer)
  -- each list has the room that it had
  pub capacity : (n : ℕ) → capacity_at new n ≡ capacity_at old n
