pub mod Held
pub mod Sessions
