pub mod CallerLemmas
pub mod Changed
pub mod Found
