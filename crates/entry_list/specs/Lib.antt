pub mod Slots
pub mod Totals
