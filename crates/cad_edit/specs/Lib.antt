pub mod SourceChange
pub mod Cut
pub mod Merging
pub mod Admitted
