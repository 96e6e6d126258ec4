-- A table that is being linked along the rings of a map.
use Rattle.std.specs.Prelude.{◌≡◌, ℕ, IsPermutation, is_some, take, nat_eq}
use Rattle.std.specs.List.{AllByRecursion, Contains, IsDistinct}
use Rattle.cad_rows.specs.declared.names.Face.{Face}
use Rattle.cad_rings.specs.Cycle.{Side, sides_of}
use Rattle.cad_map.specs.declared.boundary.Boundary.{Boundary}
use Rattle.cad_map.specs.Map.{Map, has_string}
use Rattle.numbered_rows.specs.Rows.{row_with}
use Rattle.cad_map.specs.Steps.{next_side}
use Rattle.half_table.specs.declared.half.Half.{Half}
use Rattle.half_table.specs.Rows.{HalfRows, Table, IsLinked, strings, has, next, prev, face}
use Rattle.cad_laws.specs.Local.{IsShown, side_by, next_side_by}
use Rattle.key_lists.specs.Held.{Held, items_at}
use Rattle.cell_grid.specs.Grid.{Grid}
use Rattle.map_parts.specs.declared.stars.Spoke.{Spoke}
use Rattle.map_parts.specs.Stars.{spokes_at}
use Rattle.map_parts.specs.Parts.{Parts, HasHalves}

-- a map's rows with a table, halves of rings, stars and a grid
abbrev pub parts_of : Map → Table → Held Half → Held Spoke → Grid → Parts
parts_of m table kept stars grid = record {
  sources = m.sources;
  points = m.points;
  parcels = m.parcels;
  strings = m.strings;
  retired = m.retired;
  table = table;
  kept = kept;
  stars = stars;
  grid = grid;
}

-- the table has the halves of the map's strings and no others, and each point has its star
pub record HoldsStrings (m : Map) (rows : HalfRows) (held : Held Spoke) : Type 0 where
  pub distinct : IsDistinct nat_eq (strings rows)
  pub has : (h : Half) → has rows h ≡ has_string m h.string
  pub ends : AllByRecursion (HasHalves rows) m.strings
  pub stars : (p : ℕ) → IsPermutation (spokes_at p m.strings) (items_at held p)

-- a table has the halves of the map's strings, and these are its stars
abbrev pub AreStarsOf : Map → Held Spoke → Type 0
AreStarsOf m stars = (rows : HalfRows) × HoldsStrings m rows stars

-- so it is with the first n strings
pub record HoldsStringsUpTo (m : Map) (n : ℕ) (rows : HalfRows) (held : Held Spoke) : Type 0 where
  pub linked : IsLinked rows
  pub has : (h : Half) → has rows h ≡ is_some (row_with (λ s. s.number) h.string (take n m.strings))
  pub ends : AllByRecursion (HasHalves rows) (take n m.strings)
  pub stars : (p : ℕ) → items_at held p ≡ spokes_at p (take n m.strings)

-- the half is followed by one along the next side of its ring, follows one along the side before, and has the face
pub record IsLinkedHalf (m : Map) (rows : HalfRows) (f : Face) (h : Half) : Type 0 where
  pub next_shown : IsShown m (next rows h)
  pub after : next_side_by rows h ≡ next_side m (side_by rows h)
  pub prev_shown : IsShown m (prev rows h)
  pub before : next_side m (side_by rows (prev rows h)) ≡ side_by rows h
  pub face : face rows h ≡ f

-- the half along a side of a ring is linked as the ring goes, and has its face
abbrev pub IsLinkedAt : Map → HalfRows → Boundary → Side → Type 0
IsLinkedAt m rows b s =
    (h : Half) → IsShown m h → side_by rows h ≡ s → IsLinkedHalf m rows b.face h

-- so are the halves along the whole ring
abbrev pub IsLinkedAlong : Map → HalfRows → Boundary → Type 0
IsLinkedAlong m rows b = (s : Side) → Contains (sides_of b.ring) s → IsLinkedAt m rows b s

-- halves that were linked as their rings go still are
abbrev pub KeepsLinks : Map → HalfRows → HalfRows → Type 0
KeepsLinks m old new = (b : Boundary) (s : Side) → Contains m.boundaries b
    → Contains (sides_of b.ring) s → IsLinkedAt m old b s → IsLinkedAt m new b s

-- all halves are linked as the rings go
abbrev pub IsLinkedAll : Map → HalfRows → Type 0
IsLinkedAll m rows = (b : Boundary) → Contains m.boundaries b → IsLinkedAlong m rows b
