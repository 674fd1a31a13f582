-- The laws that the layers above cite.
pub mod Opened
pub mod Replaying
pub mod Allowing
pub mod Folding
pub mod Days
