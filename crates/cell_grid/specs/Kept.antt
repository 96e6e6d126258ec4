-- What is kept of entries: those that stand in cells of four sizes, and the long ones.
use Rattle.std.specs.Prelude.{◌≡◌, ◌≤◌, List, [], ◌⊎◌, ◌↔◌, count_by, if◌then◌else◌}
use Rattle.std.specs.List.{Contains}
use Rattle.cell_grid.specs.declared.entry.Entry.{Entry}
use Rattle.cell_grid.specs.declared.segments.Segments.{Segments}
use Rattle.cell_grid.specs.declared.segments.Level.{Level}
use Rattle.cell_grid.specs.declared.segments.Level.TheVariants.{SmallSquares, Squares, LanesEast, LanesNorth, Long}
use Rattle.cell_grid.specs.Entries.{is_same_entry}
use Rattle.cell_grid.specs.Held.{HeldEntries}
use Rattle.cell_grid.specs.Spread.{IsSpread, IsSoundEntry, Stands, fits}

-- what stands in smaller squares, in squares, in lanes either way, and the long ones
pub record Kept : Type 0 where
  pub small_squares : HeldEntries
  pub squares : HeldEntries
  pub lanes_east : HeldEntries
  pub lanes_north : HeldEntries
  pub long : List Entry

-- nothing
abbrev pub nothing_kept : Kept
nothing_kept =
    record { small_squares = []; squares = []; lanes_east = []; lanes_north = []; long = [] }

-- what is kept of these segments
abbrev pub kept : Segments → Kept
kept s = record {
  small_squares = s.small_squares.lists;
  squares = s.squares.lists;
  lanes_east = s.lanes_east.lists;
  lanes_north = s.lanes_north.lists;
  long = s.long.entries.items;
}

-- the entry stands at this level
abbrev pub StandsAt : Kept → Level → Entry → Type 0
StandsAt k SmallSquares e = Stands k.small_squares e
StandsAt k Squares e = Stands k.squares e
StandsAt k LanesEast e = Stands k.lanes_east e
StandsAt k LanesNorth e = Stands k.lanes_north e
StandsAt k Long e = Contains k.long e

-- the first level with cells of which the entry's box touches few enough, or that of the long ones
abbrev pub level_of : Segments → Entry → Level
level_of s e =
    if fits s.small_squares.size e then SmallSquares
    else (if fits s.squares.size e then Squares
    else (if fits s.lanes_east.size e then LanesEast
    else (if fits s.lanes_north.size e then LanesNorth else Long)))

-- each entry stands at its level, in the cells of its box or once among the long ones
pub record AreSpread (s : Segments) : Type 0 where
  pub small_squares : IsSpread s.small_squares.size s.small_squares.lists
  pub squares : IsSpread s.squares.size s.squares.lists
  pub lanes_east : IsSpread s.lanes_east.size s.lanes_east.lists
  pub lanes_north : IsSpread s.lanes_north.size s.lanes_north.lists
  pub long_once : (e : Entry) → count_by (is_same_entry e) s.long.entries.items ≤ 1
  pub long_sound : (e : Entry) → Contains s.long.entries.items e → IsSoundEntry e
  pub at_level : (level : Level) (e : Entry) → StandsAt (kept s) level e → level ≡ level_of s e

-- the entry is held
abbrev pub IsHeld : Kept → Entry → Type 0
IsHeld k e = (level : Level) × StandsAt k level e

-- nothing is held
abbrev pub HoldsNone : Kept → Type 0
HoldsNone k = (e : Entry) → ¬ IsHeld k e

-- the same is held as before
abbrev pub HoldsSame : Kept → Kept → Type 0
HoldsSame old new = (e : Entry) → IsHeld new e ↔ IsHeld old e

-- the same is held, and this entry
abbrev pub HoldsOneMore : Kept → Entry → Kept → Type 0
HoldsOneMore old entry new = (e : Entry) → IsHeld new e ↔ (IsHeld old e ⊎ (e ≡ entry))

-- the same is held, but this entry
abbrev pub HoldsOneLess : Kept → Entry → Kept → Type 0
HoldsOneLess old entry new = (e : Entry) → IsHeld new e ↔ (IsHeld old e × ¬ (e ≡ entry))
