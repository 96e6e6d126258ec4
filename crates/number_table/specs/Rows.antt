-- Rows under numbers.
use Rattle.std.specs.Prelude.{◌≡◌, ℕ, List, slice_get, nat_eq}
use Rattle.std.specs.Prelude.{if◌then◌else◌, Option, Some}
use Rattle.std.specs.List.{IsDistinct}
use Rattle.std.specs.Map.{lookup, keys_of}

-- rows in order of entry, each with its number
abbrev pub Rows : Type 0 → Type 0
Rows V = List (ℕ × V)

module _ {V : Type 0} where
  -- the numbers of the rows, in their order
  abbrev pub numbers_of : Rows V → List ℕ
  numbers_of rows = keys_of rows

  -- no number has two rows
  abbrev pub AreDistinct : Rows V → Type 0
  AreDistinct rows = IsDistinct nat_eq (numbers_of rows)

  -- the row at the place has the number
  abbrev pub HasNumberAt : Rows V → ℕ → ℕ → Type 0
  HasNumberAt rows place number = slice_get (numbers_of rows) place ≡ Some number

  -- each number has what it had
  abbrev pub IsSame : Rows V → Rows V → Type 0
  IsSame old new = (number : ℕ) → lookup (nat_eq number) new ≡ lookup (nat_eq number) old

  -- the number has this value, or none, and each other number has what it had
  abbrev pub Updates : Rows V → Rows V → ℕ → Option V → Type 0
  Updates old new number value =
      (other : ℕ) → lookup (nat_eq other) new
      ≡ (if nat_eq number other then value else lookup (nat_eq other) old)
