pub mod Fields
pub mod Tables
