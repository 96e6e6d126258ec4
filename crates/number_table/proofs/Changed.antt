-- Rows after another value was put at a place.
use Rattle.std.proofs.Common.{◌≡◌, ℕ}
use Rattle.indexmap.proofs.CallerLemmas.{keys-with_value_at}
use Rattle.indexmap.specs.Layout.{hash_map, set_value_at}
use Rattle.number_table.specs.Rows.{Rows, numbers_of}

pub numbers-set : {V : Type 0} (rows : Rows V) (place : ℕ) (value : V) → numbers_of (set_value_at rows place value) ≡ numbers_of rows
numbers-set rows place value = keys-with_value_at (hash_map rows place 0) place value
