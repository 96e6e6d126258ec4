-- Walks along rings, and the corners that are met.
pub mod AlongRing
pub mod Walked
pub mod Counted
pub mod CornersAt
pub mod RingsFrom
pub mod FirstCorners
pub mod ChosenCorners
