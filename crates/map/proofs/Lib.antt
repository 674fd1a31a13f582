-- The twelve cases.
pub mod Cases
pub mod Refusals
pub mod Ways
pub mod Says
pub mod Mornings
pub mod Handed
