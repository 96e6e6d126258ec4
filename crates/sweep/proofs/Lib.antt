mod Rising
mod Pairs
mod Rows
pub mod Boxes
mod SortedKeys
pub mod PartFacts
