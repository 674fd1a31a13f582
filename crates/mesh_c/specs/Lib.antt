pub mod Answered
pub mod Changed
pub mod Mornings
pub mod Placed
pub mod Surfaces
pub mod Journals
pub mod Plans
pub mod Version
