-- The laws that the layers above cite.
pub mod Sifting
pub mod Comparing
pub mod Trying
pub mod Checking
pub mod Exactly
pub mod One
pub mod Says
