pub mod Entries
pub mod ByNumbers
pub mod Placed
pub mod Removed
