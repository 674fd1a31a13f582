-- The laws of a build.
pub mod Records
pub mod Turns
pub mod Going
pub mod One
