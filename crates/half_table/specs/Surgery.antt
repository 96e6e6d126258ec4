-- What each call that changes a table makes of its rows and of its cycles.
use Rattle.std.specs.Prelude.{◌≡◌, ℕ, true, false, List, [], ◌∷◌, ◌++◌, nat_eq, if◌then◌else◌, ◌↔◌, ◌⊎◌}
use Rattle.std.specs.List.Sorted.{IsPermutation}
use Rattle.cad_rows.specs.declared.names.Face.{Face}
use Rattle.cad_rows.specs.declared.names.Face.TheVariants.{Outside}
use Rattle.half_table.specs.declared.half.Half.{Half}
use Rattle.half_table.specs.declared.links.Links.{Links}
use Rattle.half_table.specs.declared.links.Ends.{Ends}
use Rattle.half_table.specs.Half.{twin, forward_of, backward_of}
use Rattle.half_table.specs.Cycle.{holds, exchanged}
use Rattle.half_table.specs.Rows.{HalfRows, strings, has_halves, has, next, prev, origin_of, face, HasCycle}

-- the halves, their origins and their faces stay, whatever follows what
pub record KeepsHalves (old new : HalfRows) : Type 0 where
  pub strings : strings new ≡ strings old
  pub has : (g : Half) → has new g ≡ has old g
  pub origin : (g : Half) → origin_of new g ≡ origin_of old g
  pub face : (g : Half) → face new g ≡ face old g

-- the halves and all their links are the same
pub record IsUnchanged (old new : HalfRows) : Type 0 where
  pub halves : KeepsHalves old new
  pub next : (g : Half) → next new g ≡ next old g
  pub prev : (g : Half) → prev new g ≡ prev old g

-- ---- A splice

-- the nexts of a and b have changed places, and with them the prevs of what followed a and b
pub record IsSpliced (a b : Half) (old new : HalfRows) : Type 0 where
  pub halves : KeepsHalves old new
  pub prev : (g : Half) → prev new g ≡ exchanged (next old a) (next old b) (prev old) g
  pub next : (g : Half) → next new g ≡ exchanged a b (next old) g

-- the same splice again gives the old table back
pub record SplicesBack (a b : Half) (old new : HalfRows) : Type 0 where
  pub restored : (again : HalfRows) → IsSpliced a b new again → IsUnchanged old again

-- a cycle through a and b is parted into two, a cycle through a and another through b become one, and each without them stays
pub record SplicesCycles (a b : Half) (old new : HalfRows) : Type 0 where
  pub parted : (xs ys : List Half) → HasCycle old (a ∷ xs ++ b ∷ ys) → HasCycle new (a ∷ ys) × HasCycle new (b ∷ xs)
  pub joined : (xs ys : List Half) → HasCycle old (a ∷ xs) → HasCycle old (b ∷ ys) → holds (a ∷ xs) b ≡ false → HasCycle new (a ∷ ys ++ b ∷ xs)
  pub others : (ring : List Half) → holds ring a ≡ false → holds ring b ≡ false → HasCycle old ring ↔ HasCycle new ring

-- ---- A cycle with another face

-- these halves have the face, and nothing else has changed
pub record Relabels (ring : List Half) (to : Face) (old new : HalfRows) : Type 0 where
  pub strings : strings new ≡ strings old
  pub has : (g : Half) → has new g ≡ has old g
  pub next : (g : Half) → next new g ≡ next old g
  pub prev : (g : Half) → prev new g ≡ prev old g
  pub origin : (g : Half) → origin_of new g ≡ origin_of old g
  pub face : (g : Half) → face new g ≡ (if holds ring g then to else face old g)

-- ---- A string that comes or goes

-- a string is new, with its two halves next and prev of each other, and nothing else has changed
pub record AddsLoose (s from to : ℕ) (old new : HalfRows) : Type 0 where
  pub strings : strings new ≡ strings old ++ s ∷ []
  pub has : (g : Half) → has new g ≡ (if nat_eq g.string s then true else has old g)
  pub next : (g : Half) → next new g ≡ (if nat_eq g.string s then twin g else next old g)
  pub prev : (g : Half) → prev new g ≡ (if nat_eq g.string s then twin g else prev old g)
  pub origin : (g : Half) → origin_of new g ≡ (if nat_eq g.string s then (if g.forward then from else to) else origin_of old g)
  pub face : (g : Half) → face new g ≡ (if nat_eq g.string s then Outside else face old g)

-- the two halves of a string are each other's next
pub record IsLoose (s : ℕ) (rows : HalfRows) : Type 0 where
  pub there : has_halves rows s ≡ true
  pub forward : next rows (forward_of s) ≡ backward_of s
  pub backward : next rows (backward_of s) ≡ forward_of s

-- a string is gone, and nothing else has changed
pub record RemovesLoose (s : ℕ) (old new : HalfRows) : Type 0 where
  pub strings : IsPermutation (strings old) (s ∷ strings new)
  pub has : (g : Half) → has new g ≡ (if nat_eq g.string s then false else has old g)
  pub next : (g : Half) → next new g ≡ (if nat_eq g.string s then g else next old g)
  pub prev : (g : Half) → prev new g ≡ (if nat_eq g.string s then g else prev old g)
  pub origin : (g : Half) → origin_of new g ≡ (if nat_eq g.string s then 0 else origin_of old g)
  pub face : (g : Half) → face new g ≡ (if nat_eq g.string s then Outside else face old g)

-- the two halves of a string, that were not there, are a cycle, and otherwise both tables have the same cycles
pub record AddsCycle (s : ℕ) (old new : HalfRows) : Type 0 where
  pub fresh : has_halves old s ≡ false
  pub added : HasCycle new (forward_of s ∷ backward_of s ∷ [])
  pub kept : (ring : List Half) → HasCycle old ring → HasCycle new ring
  pub only : (ring : List Half) → HasCycle new ring → HasCycle old ring ⊎ ((ring ≡ forward_of s ∷ backward_of s ∷ []) ⊎ (ring ≡ backward_of s ∷ forward_of s ∷ []))

-- the two halves of a string, that are there no more, were a cycle, and otherwise both tables have the same cycles
abbrev pub RemovesCycle : (s : ℕ) → (old new : HalfRows) → Type 0
RemovesCycle s old new = AddsCycle s new old

-- the links of a half that follows h and that h follows
abbrev pub links_to : Half → ℕ → Face → Links
links_to h origin face = record { origin = origin; next = h; prev = h; face = face }

-- the links of a string whose halves follow each other
abbrev pub loose_ends : (s from to : ℕ) → Ends
loose_ends s from to = record { forward = links_to (backward_of s) from Outside; backward = links_to (forward_of s) to Outside }
