-- Loose strings that come to a table and go from it.
use Rattle.std.specs.Prelude.{◌≡◌, ℕ, Bool, true, false, List, map, ◌++◌, nat_eq, if◌then◌else◌}
use Rattle.std.specs.List.{AllByRecursion, list_any}
use Rattle.std.specs.List.Sorted.{IsPermutation}
use Rattle.cad_rows.specs.declared.names.Face.TheVariants.{Outside}
use Rattle.cad_rows.specs.declared.rows.StringRow.{StringRow}
use Rattle.half_table.specs.declared.half.Half.{Half}
use Rattle.half_table.specs.Half.{twin, forward_of, backward_of}
use Rattle.half_table.specs.Rows.{HalfRows, strings, has_halves, has, next, prev, origin_of, face}
use Rattle.half_table.specs.Surgery.{loose_ends}
use Rattle.half_paths.specs.Path.{strings_of}

abbrev pub numbers_of : List StringRow → List ℕ
numbers_of added = map (λ (s : StringRow). s.number) added

-- whether the half is of one of these strings
abbrev pub is_of : List ℕ → Half → Bool
is_of numbers g = list_any (nat_eq g.string) numbers

-- the table has none of these strings
abbrev pub AreNew : HalfRows → List StringRow → Type 0
AreNew rows added = AllByRecursion (λ s. has_halves rows s.number ≡ false) added

-- what a table holds of strings that are new
abbrev pub loose_rows : List StringRow → HalfRows
loose_rows added = map (λ (s : StringRow). (s.number, loose_ends s.number s.from s.to)) added

-- the halves of a string begin at its two points
abbrev pub HasEnds : HalfRows → StringRow → Type 0
HasEnds rows s = (origin_of rows (forward_of s.number) ≡ s.from) × (origin_of rows (backward_of s.number) ≡ s.to)

-- of the string of each of these halves each half is followed by the other
abbrev pub AreLoose : (Half → Half) → List Half → Type 0
AreLoose next halves = AllByRecursion (λ h. (next h ≡ twin h) × (next (twin h) ≡ h)) halves

-- these strings are new and loose, and nothing else has changed
pub record AddsStrings (added : List StringRow) (old new : HalfRows) : Type 0 where
  pub strings : strings new ≡ strings old ++ numbers_of added
  pub has : (g : Half) → has new g ≡ (if is_of (numbers_of added) g then true else has old g)
  pub next : (g : Half) → next new g ≡ (if is_of (numbers_of added) g then twin g else next old g)
  pub prev : (g : Half) → prev new g ≡ (if is_of (numbers_of added) g then twin g else prev old g)
  pub face : (g : Half) → face new g ≡ (if is_of (numbers_of added) g then Outside else face old g)
  pub ends : AllByRecursion (HasEnds new) added
  pub origin : (g : Half) → is_of (numbers_of added) g ≡ false → origin_of new g ≡ origin_of old g

-- the strings of these halves are gone, and nothing else has changed
pub record DropsStrings (dropped : List Half) (old new : HalfRows) : Type 0 where
  pub strings : IsPermutation (strings old) (strings_of dropped ++ strings new)
  pub has : (g : Half) → has new g ≡ (if is_of (strings_of dropped) g then false else has old g)
  pub next : (g : Half) → next new g ≡ (if is_of (strings_of dropped) g then g else next old g)
  pub prev : (g : Half) → prev new g ≡ (if is_of (strings_of dropped) g then g else prev old g)
  pub origin : (g : Half) → origin_of new g ≡ (if is_of (strings_of dropped) g then 0 else origin_of old g)
  pub face : (g : Half) → face new g ≡ (if is_of (strings_of dropped) g then Outside else face old g)
