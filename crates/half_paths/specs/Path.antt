-- Paths of strings: a first half and the rest, each seen along the path.
use Rattle.std.specs.Prelude.{◌≡◌, ℕ, true, false, List, [], ◌∷◌, map, nat_eq}
use Rattle.std.specs.List.{AllByRecursion, IsDistinct}
use Rattle.half_table.specs.declared.half.Half.{Half}
use Rattle.half_table.specs.Rows.{HalfRows, has}

-- the strings of these halves
abbrev pub strings_of : List Half → List ℕ
strings_of halves = map (λ (h : Half). h.string) halves

-- the table has these halves
abbrev pub AreIn : HalfRows → List Half → Type 0
AreIn rows halves = AllByRecursion (λ h. has rows h ≡ true) halves

-- none of these halves is of the string of g
abbrev pub AreElsewhere : Half → List Half → Type 0
AreElsewhere g halves = AllByRecursion (λ s. nat_eq g.string s ≡ false) (strings_of halves)

-- no string is passed twice
abbrev pub AreDifferent : List Half → Type 0
AreDifferent halves = IsDistinct nat_eq (strings_of halves)

-- the last half of a path
abbrev pub last_of : Half → List Half → Half
last_of a [] = a
last_of a (b ∷ rest) = last_of b rest
