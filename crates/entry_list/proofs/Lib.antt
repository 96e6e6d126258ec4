pub mod Above
pub mod Lists
pub mod Rows
pub mod Found
pub mod EmptySlots
pub mod Numbers
pub mod OneSlot
pub mod Totals
