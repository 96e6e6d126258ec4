pub mod Moves
pub mod Triangles
pub mod Joins
pub mod Near
pub mod Seen
pub mod Rays
pub mod KeptAreas
pub mod Many
