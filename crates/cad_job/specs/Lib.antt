pub mod Arguments
pub mod Jobs
pub mod Statuses
pub mod Stopped
pub mod Told
