-- The rows of a table, read as functions on half-edges.
use Rattle.std.specs.Prelude.{◌≡◌, ℕ, Bool, true, List, [], ◌∷◌, length, Option, option_map, is_some, nat_eq, if◌then◌else◌}
use Rattle.std.specs.List.{IsDistinct}
use Rattle.std.specs.Map.{lookup, keys_of}
use Rattle.std.specs.Option.{option_map_or}
use Rattle.cad_rows.specs.declared.names.Face.{Face}
use Rattle.cad_rows.specs.declared.names.Face.TheVariants.{Outside}
use Rattle.half_table.specs.declared.half.Half.{Half}
use Rattle.half_table.specs.declared.links.Links.{Links}
use Rattle.half_table.specs.declared.links.Ends.{Ends}
use Rattle.half_table.specs.Half.{forward_of, backward_of}
use Rattle.half_table.specs.Cycle.{holds, orbit, IsCycle}

-- the links of the two halves under the number of each string
abbrev pub HalfRows : Type 0
HalfRows = List (ℕ × Ends)

-- what a contract sees of a table: its rows, and the count of its tally
pub record Table : Type 0 where
  pub rows : HalfRows
  pub work : ℕ

-- the strings that the table holds
abbrev pub strings : HalfRows → List ℕ
strings rows = keys_of rows

abbrev pub has_halves : HalfRows → ℕ → Bool
has_halves rows s = is_some (lookup (nat_eq s) rows)

abbrev pub links_at : Bool → Ends → Links
links_at forward ends = if forward then ends.forward else ends.backward

-- the links of a half, if it is there
abbrev pub links_of : HalfRows → Half → Option Links
links_of rows h = option_map (links_at h.forward) (lookup (nat_eq h.string) rows)

abbrev pub has : HalfRows → Half → Bool
has rows h = is_some (links_of rows h)

-- the half that follows; one that isn't there follows itself
abbrev pub next : HalfRows → Half → Half
next rows h = option_map_or (λ l. l.next) (links_of rows h) h

-- the half that is followed; one that isn't there follows itself
abbrev pub prev : HalfRows → Half → Half
prev rows h = option_map_or (λ l. l.prev) (links_of rows h) h

-- the point where the half begins
abbrev pub origin_of : HalfRows → Half → ℕ
origin_of rows h = option_map_or (λ l. l.origin) (links_of rows h) 0

-- the face to the left
abbrev pub face : HalfRows → Half → Face
face rows h = option_map_or (λ l. l.face) (links_of rows h) Outside

-- no string stands twice; prev undoes next and next undoes prev; and what follows a half of the table is in it
pub record IsLinked (rows : HalfRows) : Type 0 where
  pub distinct : IsDistinct nat_eq (strings rows)
  pub prev_next : (h : Half) → prev rows (next rows h) ≡ h
  pub next_prev : (h : Half) → next rows (prev rows h) ≡ h
  pub inside : (h : Half) → has rows (next rows h) ≡ has rows h

-- both halves of each of these strings
abbrev pub halves_of : List ℕ → List Half
halves_of [] = []
halves_of (s ∷ numbers) = forward_of s ∷ backward_of s ∷ halves_of numbers

-- all halves of the table
abbrev pub halves : HalfRows → List Half
halves rows = halves_of (strings rows)

-- the cycle of h, from h on
abbrev pub cycle : HalfRows → Half → List Half
cycle rows h = h ∷ orbit (next rows) (length (halves rows)) h (next rows h)

-- these halves of the table are a whole cycle, each once
pub record HasCycle (rows : HalfRows) (ring : List Half) : Type 0 where
  pub closes : IsCycle (next rows) ring
  pub inside : (h : Half) → holds ring h ≡ true → has rows h ≡ true
