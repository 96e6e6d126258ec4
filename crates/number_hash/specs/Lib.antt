pub mod Start
pub mod Neighbours
