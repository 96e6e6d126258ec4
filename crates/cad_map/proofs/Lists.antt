-- Lists: elements, tests of them, and rows as they grow and shrink.
pub mod EachElement
pub mod Elements
pub mod ElementFacts
pub mod TakenOut
pub mod RowsLeft
pub mod RowsInTurn
pub mod Entries
pub mod Runs
pub mod PairsByPlace
