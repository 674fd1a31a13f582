-- From the promises of the public calls to the same told by numbers.
pub mod Plain
pub mod Queries
pub mod Places
pub mod Edits
pub mod Mornings
pub mod Placed
pub mod Surfaces
pub mod Journals
pub mod Planner
pub mod Plans
