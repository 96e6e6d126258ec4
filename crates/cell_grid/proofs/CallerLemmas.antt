-- What crates above cite of grids, in one import.
-- entries that the test takes for the same are, and each is the same as itself
pub use Rattle.cell_grid.proofs.Same.{same_entry, is_itself}
