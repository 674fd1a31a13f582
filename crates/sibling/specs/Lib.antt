pub mod Shared
pub mod Halves
pub mod Ways
