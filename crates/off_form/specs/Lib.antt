pub mod Took
pub mod Formed
