pub mod Redirect
pub mod Path
pub mod Strung
pub mod Ends
pub mod Loose
pub mod Rerouted
pub mod Round
