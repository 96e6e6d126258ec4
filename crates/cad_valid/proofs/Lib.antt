mod EmptyCorners
mod FacesOfMap
mod Tests
mod Decisions
mod GrownLists
mod SweptPairs
mod BoxesOfMap
mod SweptRules
mod PlacedStrings
mod Whole
mod InsideBox
mod AnchorFacts
mod Sweeping
mod PlacedRings
mod ShapesOfFace
mod RingsInMap
mod OutlineCounts
mod StarTests
pub mod CallerLemmas
pub mod HubFacts
pub mod TurnNeighbours
