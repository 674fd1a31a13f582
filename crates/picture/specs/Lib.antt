pub mod State
pub mod Picture
pub mod Changes
pub mod Step
pub mod Ready
pub mod Writes
