pub mod Story
pub mod Walked
pub mod Records
