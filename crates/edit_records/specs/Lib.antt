pub mod HeldChains
pub mod Record
pub mod Gridded
pub mod Exchanged
pub mod GridEdits
pub mod GridLists
pub mod Told
pub mod Recut
