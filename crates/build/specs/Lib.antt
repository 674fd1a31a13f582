pub mod Builds
pub mod Recorded
