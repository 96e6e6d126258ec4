-- What a grid holds.
use Rattle.std.specs.Prelude.{ℕ}
use Rattle.geo_exact.specs.Position.{Position}
use Rattle.cad_rows.specs.Limits.{IsNumber}
use Rattle.cell_grid.specs.declared.entry.Entry.{Entry}
use Rattle.cell_grid.specs.declared.entry.HeldString.{HeldString}
use Rattle.cell_grid.specs.declared.entry.HeldPoint.{HeldPoint}
use Rattle.cell_grid.specs.Kept.{Kept, nothing_kept, IsHeld}

-- what is kept of strings, and of points
pub record Grid : Type 0 where
  pub strings : Kept
  pub points : Kept

-- the grid that holds nothing
abbrev pub empty_grid : Grid
empty_grid = record { strings = nothing_kept; points = nothing_kept }

-- the entry of a number between two positions
abbrev pub entry_of : ℕ → Position → Position → Entry
entry_of n a b = record { number = n; from = a; to = b }

-- an entry of strings, and one of points
abbrev pub held_string : Entry → HeldString
held_string e = record { string = e.number; from = e.from; to = e.to }

abbrev pub held_point : Entry → HeldPoint
held_point e = record { point = e.number; position = e.from }

-- the entry has a number
abbrev pub IsNumbered : Entry → Type 0
IsNumbered e = IsNumber e.number

-- the grid holds the string with this number between these positions
abbrev pub HoldsString : Grid → ℕ → Position → Position → Type 0
HoldsString g n a b = IsHeld g.strings (entry_of n a b)

-- the grid holds the point with this number at this position
abbrev pub HoldsPoint : Grid → ℕ → Position → Type 0
HoldsPoint g n a = IsHeld g.points (entry_of n a a)
