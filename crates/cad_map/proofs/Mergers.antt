-- Mergers of two parcels.
pub mod Merged
pub mod MergedRows
pub mod MergedSums
