-- The laws that the layers above cite.
pub mod Example
pub mod Words
pub mod Joined
pub mod Digits
pub mod Meant
pub mod Round
pub mod Along
pub mod Values
pub mod Added
pub mod Signed
pub mod Turned
pub mod Sizes
