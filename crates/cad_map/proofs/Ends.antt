-- Ends of strings: where strings meet, and in which directions they lead.
pub mod SharedEnds
pub mod Meetings
pub mod Parallel
pub mod SameDirection
pub mod StringEnds
pub mod StarFacts
pub mod StringsTold
pub mod InTurn
pub mod MarkedStars
