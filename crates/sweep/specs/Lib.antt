pub mod Spans
pub mod Extents
pub mod Repeats
pub mod Parts
