-- The laws that the calls cite.
pub mod Rows
pub mod Values
pub mod Opens
pub mod Passed
pub mod Begins
