-- The laws of settling.
pub mod Sibs
pub mod Ancs
pub mod Mending
pub mod Anchoring
