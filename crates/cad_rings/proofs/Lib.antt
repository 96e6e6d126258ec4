pub mod Order
pub mod Least
pub mod Turned
pub mod OneForm
pub mod Permuted
pub mod SideLemmas
pub mod SidesInTurn
pub mod CornerLemmas
pub mod Parts
pub mod CutLemmas
pub mod CutElsewhere
pub mod JoinLemmas
pub mod CutCorners
pub mod AnchorLemmas
pub mod PutOn
pub mod Without
pub mod PointCorners
pub mod Placed
pub mod CallerLemmas
mod CanonicalSteps
pub mod InMemory
mod Examples
