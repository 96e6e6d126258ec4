-- What goes out of the grid of a map, and what comes in, where another map takes its place.
use Rattle.std.specs.Prelude.{List, ◌⊎◌, ◌↔◌}
use Rattle.std.specs.List.{Contains}
use Rattle.cad_map.specs.Map.{Map}
use Rattle.cell_grid.specs.declared.entry.Entry.{Entry}
use Rattle.cell_grid.specs.Kept.{Kept, IsHeld}
use Rattle.cell_grid.specs.Together.{Listed, AreDistinct}
use Rattle.cell_grid.specs.Grid.{Grid}
use Rattle.edit_records.specs.Gridded.{string_entries, point_entries, IsGridOf}

-- the entries of these that aren't among those, each once
pub record AreOnlyOf (these those only : List Entry) : Type 0 where
  pub is : (e : Entry) → Contains only e ↔ (Contains these e × ¬ Contains those e)
  pub once : AreDistinct only

-- what only the old map has goes, and what only the new one has comes
pub record IsExchange (old : Map) (gone come : Listed) (new : Map) : Type 0 where
  pub strings_gone : AreOnlyOf (string_entries old) (string_entries new) gone.strings
  pub points_gone : AreOnlyOf (point_entries old) (point_entries new) gone.points
  pub strings_come : AreOnlyOf (string_entries new) (string_entries old) come.strings
  pub points_come : AreOnlyOf (point_entries new) (point_entries old) come.points

-- the entries of both lists are held, and no others
abbrev pub HoldsBoth : List Entry → List Entry → Kept → Type 0
HoldsBoth these those k = (e : Entry) → IsHeld k e ↔ (Contains these e ⊎ Contains those e)

-- the grid holds just the strings and points of two maps, at their positions in each
pub record IsGridOfBoth (g : Grid) (old new : Map) : Type 0 where
  pub strings : HoldsBoth (string_entries old) (string_entries new) g.strings
  pub points : HoldsBoth (point_entries old) (point_entries new) g.points

-- the grid is that of a map, and these come where another takes its place
abbrev pub CanEnter : Grid → Listed → Type 0
CanEnter g come =
    (old : Map) × (gone : Listed) × (new : Map) × IsGridOf g old × IsExchange old gone come new

-- the grid is that of two maps, and these go where the second is alone
abbrev pub CanLeave : Grid → Listed → Type 0
CanLeave g gone =
    (old : Map) × (come : Listed) × (new : Map) × IsGridOfBoth g old new
    × IsExchange old gone come new
