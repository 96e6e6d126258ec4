-- The grid of a map: its strings and points, each at its positions, and nothing else.
use Rattle.std.specs.Prelude.{List, map, ◌↔◌}
use Rattle.std.specs.List.{Contains}
use Rattle.cad_rows.specs.declared.rows.PointRow.{PointRow}
use Rattle.cad_rows.specs.declared.rows.StringRow.{StringRow}
use Rattle.cad_map.specs.Map.{Map, position_of}
use Rattle.cell_grid.specs.declared.entry.Entry.{Entry}
use Rattle.cell_grid.specs.Kept.{Kept, IsHeld}
use Rattle.cell_grid.specs.Grid.{Grid, entry_of}

-- a string at the positions of its ends
abbrev pub string_entry : Map → StringRow → Entry
string_entry m s = entry_of s.number (position_of m s.from) (position_of m s.to)

-- a point at its position
abbrev pub point_entry : PointRow → Entry
point_entry p = entry_of p.number p.position p.position

-- all strings of a map
abbrev pub string_entries : Map → List Entry
string_entries m = map (string_entry m) m.strings

-- all points of a map
abbrev pub point_entries : Map → List Entry
point_entries m = map point_entry m.points

-- these entries are held, and no others
abbrev pub HoldsJust : List Entry → Kept → Type 0
HoldsJust entries k = (e : Entry) → IsHeld k e ↔ Contains entries e

-- the grid holds just the map's strings and points, at their positions
pub record IsGridOf (g : Grid) (m : Map) : Type 0 where
  pub strings : HoldsJust (string_entries m) g.strings
  pub points : HoldsJust (point_entries m) g.points
