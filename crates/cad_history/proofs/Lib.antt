mod Cut
mod Moves
mod Calls
pub mod Runs
pub mod OneHistory
pub mod Built
