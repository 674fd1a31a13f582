-- The laws that the calls cite.
pub mod Rows
pub mod Marked
pub mod Replies
pub mod Measures
pub mod Written
pub mod Pointing
pub mod Moved
pub mod One
