-- What a caller cites of a table.
use Rattle.std.proofs.Common.{◌≡◌, ◌<◌, ℕ, length, Some, slice_get, swap_remove, nat_eq}
use Rattle.std.proofs.lemmas.Cmp.{nat_eq_equiv}
use Rattle.std.proofs.lemmas.Option.{slice_get_within}
use Rattle.indexmap.proofs.CallerLemmas.{updates-with_value_at}
use Rattle.indexmap.proofs.MapLemmas.{index-first, swap_remove_entry-found}
use Rattle.indexmap.proofs.RemoveLemmas.{own_first}
use Rattle.indexmap.specs.IndexMap.{swap_remove_entry}
use Rattle.indexmap.specs.Layout.{hash_map, set_value_at}
use Rattle.number_table.specs.Rows.{Rows, AreDistinct, HasNumberAt, Updates}
use Rattle.number_table.proofs.Found.{row-at}

module _ {V : Type 0} (rows : Rows V) (place number : ℕ) (has : HasNumberAt rows place number) where
  -- the place of a number lies within
  pub within : place < length rows
  within = let row = row-at rows place number has in slice_get_within rows place (number, row.0) row.1

  -- another value there is the number's, and each other number keeps its own
  pub updates-set : AreDistinct rows → (value : V) → Updates rows (set_value_at rows place value) number (Some value)
  updates-set distinct value =
      let row = row-at rows place number has in (updates-with_value_at (hash_map rows place 0) place value nat_eq_equiv distinct number row.0 row.1).0

-- a row that is taken out at its place is taken out as the kit's map takes one out by its key
pub removed-entry : {V : Type 0} (rows : Rows V) (place number : ℕ) (value : V) → AreDistinct rows → slice_get rows place ≡ Some (number, value)
    → swap_remove_entry (nat_eq number) rows ≡ swap_remove rows place (number, value)
removed-entry rows place number value distinct at =
    swap_remove_entry-found (nat_eq number) rows place (number, value)
    (index-first (nat_eq number) rows place (own_first nat_eq nat_eq_equiv rows place number value distinct at))
