-- The laws that several proofs cite.
pub mod Exact
pub mod Measures
pub mod Sums
pub mod Products
pub mod Turns
