-- Lists that are copied element by element.
pub use Rattle.numbered_rows.proofs.Entries.{take-more}

-- that a list is put up to a place, and with the element there up to the next
pub ruleset put_in_turn = (take-more)
