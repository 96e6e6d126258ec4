-- The chain that two faces share: it is found by steps along the rings, and it is the only one.
pub mod FoundChains
pub mod Steps
pub mod StepsOfRings
pub mod ChainsOfRings
pub mod WholeSides
pub mod NextSides
pub mod TwoWays
pub mod SharedPoints
pub mod ChainsOfMap
pub mod OneChain
