-- The laws that the layers above cite.
pub mod Fields
pub mod Slots
pub mod Marks
pub mod Writes
pub mod Ways
pub mod Opens
pub mod Heads
pub mod Rests
pub mod Shut
