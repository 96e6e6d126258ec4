-- A path tied together at the points within it, and taken apart.
use Rattle.std.specs.Prelude.{◌≡◌, List, [], ◌∷◌}
use Rattle.half_table.specs.declared.half.Half.{Half}
use Rattle.half_table.specs.Half.{twin}
use Rattle.half_table.specs.Cycle.{exchanged}

-- each half of the path leads on to the next one, and on the way back to the one before
abbrev pub strung : Half → List Half → List (Half × Half)
strung a [] = []
strung a (b ∷ rest) = (twin b, twin a) ∷ (a, b) ∷ strung b rest

-- each string of the path leads back to itself where it meets its neighbour
abbrev pub unstrung : Half → List Half → List (Half × Half)
unstrung a [] = []
unstrung a (b ∷ rest) = (twin b, b) ∷ (a, twin a) ∷ unstrung b rest

-- the strings of the path lead on to one another, there and back
abbrev pub IsStrung : (Half → Half) → Half → List Half → Type 0
IsStrung next a [] = Unit {0}
IsStrung next a (b ∷ rest) = (next a ≡ b) × (next (twin b) ≡ twin a) × IsStrung next b rest

-- the strings of the path lead back to themselves at each point within it
abbrev pub IsUnstrung : (Half → Half) → Half → List Half → Type 0
IsUnstrung next a [] = Unit {0}
IsUnstrung next a (b ∷ rest) = (next a ≡ twin a) × (next (twin b) ≡ b) × IsUnstrung next b rest

-- an exchange at each point within the path
abbrev pub along : Half → List Half → (Half → Half) → Half → Half
along a [] next = next
along a (b ∷ rest) next = along b rest (exchanged a (twin b) next)
