-- The laws that the layers above cite.
pub mod Ranges
pub mod Loops
pub mod Afters
pub mod Readings
pub mod Settling
pub mod Deciding
pub mod Wholes
pub mod One
