pub mod Count
pub mod Half
pub mod Cycle
pub mod Rows
pub mod Packed
pub mod Writes
pub mod Surgery
pub mod Ahead
