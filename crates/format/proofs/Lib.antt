-- The laws that the layers above cite.
pub mod Clears
pub mod Emptied
pub mod Head
pub mod One
