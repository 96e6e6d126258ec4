-- A table of half-edges and a map, half by half.
use Rattle.std.specs.Prelude.{◌≡◌, ℕ, true, List, IsTrue}
use Rattle.std.specs.List.{Contains}
use Rattle.cad_rows.specs.declared.rows.StringRow.{StringRow}
use Rattle.cad_rings.specs.Cycle.{Side}
use Rattle.cad_rings.specs.Surgery.{both_ways}
use Rattle.cad_map.specs.Map.{Map, has_string}
use Rattle.cad_map.specs.Views.{ComesAfter}
use Rattle.half_table.specs.declared.half.Half.{Half}
use Rattle.half_table.specs.Half.{twin, forward_of, backward_of}
use Rattle.half_table.specs.Rows.{HalfRows, has, next, origin_of, IsLinked}

-- the half is of a string of the map
abbrev pub IsShown : Map → Half → Type 0
IsShown m h = IsTrue (has_string m h.string)

-- the side along which the half leads
abbrev pub side_by : HalfRows → Half → Side
side_by rows h = (origin_of rows h, origin_of rows (twin h))

-- the side along which the next half leads
abbrev pub next_side_by : HalfRows → Half → Side
next_side_by rows h = side_by rows (next rows h)

-- the point to which the next half leads
abbrev pub beyond : HalfRows → Half → ℕ
beyond rows h = origin_of rows (twin (next rows h))

-- the side is one of these, in one direction or the other
abbrev pub LeadsAlong : List Side → Side → Type 0
LeadsAlong sides s = Contains (both_ways sides) s

-- the half makes with its next a corner of the map
abbrev pub GoesOnIn : Map → HalfRows → Half → Type 0
GoesOnIn m rows h = ComesAfter m (side_by rows h) (beyond rows h)

-- Each half of the map's strings is in the table, and makes with its next a corner of the map; no
-- two have one side.
pub record IsLocal (m : Map) (rows : HalfRows) : Type 0 where
  pub linked : IsLinked rows
  pub there : (h : Half) → IsShown m h → has rows h ≡ true
  pub inside : (h : Half) → IsShown m h → IsShown m (next rows h)
  pub meets : (h : Half) → IsShown m h → origin_of rows (next rows h) ≡ origin_of rows (twin h)
  pub corners : (h : Half) → IsShown m h → GoesOnIn m rows h
  pub apart : (g h : Half) → IsShown m g → IsShown m h → side_by rows g ≡ side_by rows h → g ≡ h

-- the two halves of the string begin at its ends
abbrev pub HasEnds : HalfRows → StringRow → Type 0
HasEnds rows s =
    (origin_of rows (forward_of s.number) ≡ s.from) × (origin_of rows (backward_of s.number) ≡ s.to)

-- the halves of each string of the map begin at its ends
abbrev pub BeginAtEnds : Map → HalfRows → Type 0
BeginAtEnds m rows = (s : StringRow) → Contains m.strings s → HasEnds rows s
