-- The laws of the word-reading queries.
pub mod Asks
pub mod Words
pub mod Calls
pub mod Marks
pub mod Steps
pub mod Frees
