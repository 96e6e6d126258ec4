pub mod Redirected
pub mod Along
pub mod Apart
mod TwoEnds
pub mod Added
mod Dropped
pub mod Exchanged
pub mod Tied
