-- The laws that the layers above cite.
pub mod Copying
pub mod Days
pub mod Heads
pub mod Reading
pub mod Pictures
