-- The laws of the input.
pub mod Lines
pub mod Going
pub mod Ends
pub mod Runs
