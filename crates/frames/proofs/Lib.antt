-- The laws that the layers above cite.
pub mod Example
pub mod Digits
pub mod Lines
pub mod Rows
pub mod Told
pub mod Append
pub mod Texts
pub mod Sizes
pub mod Steps
pub mod Replies
