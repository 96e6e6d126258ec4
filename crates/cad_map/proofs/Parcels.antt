-- New parcels: a chain across a face, and a closed chain in it.
pub mod ChainFacts
pub mod AddedRows
pub mod AddedChain
pub mod PlacedRings
pub mod PlacedSums
pub mod CutSides
pub mod Divided
pub mod Enclosed
