-- That the parts of a map on half-edges go with its rings, half by half.
use Rattle.std.specs.Prelude.{◌≡◌, ◌≢◌, ℕ, false, List, [], IsPermutation}
use Rattle.std.specs.List.{AllByRecursion}
use Rattle.cad_rows.specs.declared.names.Face.{Face}
use Rattle.cad_map.specs.declared.boundary.Boundary.{Boundary}
use Rattle.cad_map.specs.Map.{Map, has_face, string_sides}
use Rattle.cad_map.specs.Valid.{EachPair}
use Rattle.cad_map.specs.Views.{HasSide}
use Rattle.half_table.specs.declared.half.Half.{Half}
use Rattle.half_table.specs.Rows.{HalfRows, face}
use Rattle.cad_laws.specs.Local.{IsShown, side_by, IsLocal}
use Rattle.key_lists.specs.Held.{items_at}
use Rattle.map_parts.specs.KeptRings.{KeepsRings}
use Rattle.map_parts.specs.Stars.{spokes_at}
use Rattle.map_parts.specs.Parts.{Parts, HasHalves, rows_of, kept_at, kept_halves}

-- the rows with these rings
abbrev pub with_rings : Parts → List Boundary → Map
with_rings d bs = record (rows_of d) { boundaries = bs }

-- each half of the map's strings has a face that has its side
abbrev pub HaveFaces : Map → HalfRows → Type 0
HaveFaces m rows = (h : Half) → IsShown m h → HasSide m (face rows h) (side_by rows h)

-- The halves go on as these rings do and have their faces, one of each ring is kept, and each
-- point has its star.
pub record FitRings (d : Parts) (bs : List Boundary) : Type 0 where
  pub local : IsLocal (with_rings d bs) d.table.rows
  pub ends : AllByRecursion (HasHalves d.table.rows) d.strings
  pub faces : HaveFaces (with_rings d bs) d.table.rows
  pub kept : KeepsRings (with_rings d bs) d.table.rows (kept_halves d)
  pub no_face : (f : Face) → has_face (rows_of d) f ≡ false → kept_at d f ≡ []
  pub stars : (p : ℕ) → IsPermutation (spokes_at p d.strings) (items_at d.stars p)

-- no side of a string stands twice
abbrev pub HasSidesOnce : Parts → Type 0
HasSidesOnce d = EachPair (λ a b. a ≢ b) (string_sides (rows_of d))
