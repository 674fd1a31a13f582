pub mod Whole
pub mod Points
