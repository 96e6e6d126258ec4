pub mod Files
pub mod Batches
