pub mod Depth
pub mod History
pub mod Steps
pub mod Standing
