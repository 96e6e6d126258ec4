mod Placed
mod Blocks
mod Same
mod Spreading
mod Spreads
mod Bounded
mod Nearness
mod Found
mod Levels
mod Layered
mod Grids
mod Together
pub mod CallerLemmas
