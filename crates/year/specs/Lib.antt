pub mod Calls
pub mod Since
