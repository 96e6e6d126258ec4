-- Positions of points, as a list of entries: the number of a point, and where it is.
use Rattle.std.specs.Prelude.{ℕ, pos, ◌==◌, List, map, find, option_map, unwrap_or}
use Rattle.std.specs.List.{All, Contains}
use Rattle.geo_exact.specs.Position.{Position}
use Rattle.cad_rings.specs.Cycle.{Ring}

-- the list has an entry of the point
abbrev pub IsPlaced : List (ℕ × Position) → ℕ → Type 0
IsPlaced positions p = Contains (map (λ entry. entry.0) positions) p

-- and one of each point of the ring
abbrev pub ArePlaced : List (ℕ × Position) → Ring → Type 0
ArePlaced positions ring = All (IsPlaced positions) ring

-- where the point is by its first entry; a point that has none is at the origin
abbrev pub position_in : List (ℕ × Position) → ℕ → Position
position_in positions p = unwrap_or (option_map (λ entry. entry.1) (find (λ entry. entry.0 == p) positions)) (record { x = pos 0; y = pos 0 })
