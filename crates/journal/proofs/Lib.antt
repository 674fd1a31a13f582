-- The laws that the layers above cite.
pub mod Both
pub mod Opened
pub mod Appending
pub mod Beginning
pub mod Entering
