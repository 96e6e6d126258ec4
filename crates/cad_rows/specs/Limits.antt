-- How many, how large and how long.
use Rattle.std.specs.Prelude.{ℕ, ◌≤◌, ◌&&◌, nat_le, List, length, IsUtf8, Option, Some, None, if◌then◌else◌}

-- the greatest number of a point, a string, a parcel or a source
abbrev pub greatest_number : ℕ
greatest_number = 999999999

-- the number of a row
pub record IsNumber (n : ℕ) : Type 0 where
  pub some : 1 ≤ n
  pub within : n ≤ greatest_number

-- the most bytes of a label or of a source's text
abbrev pub label_limit : ℕ
label_limit = 80

-- a label: text that is neither empty nor too long
pub record IsLabel (bytes : List ℕ) : Type 0 where
  pub some : 1 ≤ length bytes
  pub within : length bytes ≤ label_limit
  pub text : IsUtf8 bytes

-- the label that a text makes
abbrev pub label_of : List ℕ → Option (List ℕ)
label_of bytes =
    if nat_le 1 (length bytes) && nat_le (length bytes) label_limit then Some bytes else None

-- the most points, parcels, sources and retired numbers, each
abbrev pub row_limit : ℕ
row_limit = 100000

-- the most strings
abbrev pub string_limit : ℕ
string_limit = 200000

-- the most sources of one point, string or parcel
abbrev pub source_limit : ℕ
source_limit = 16
