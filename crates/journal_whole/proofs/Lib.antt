-- The laws that the layers above cite.
pub mod Zeroed
pub mod Edits
pub mod Listing
pub mod Heads
pub mod Filing
pub mod Wholes
