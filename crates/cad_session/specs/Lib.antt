pub mod Answered
pub mod Opening
pub mod Plain
