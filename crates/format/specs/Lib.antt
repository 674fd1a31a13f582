pub mod Formatted
pub mod Cleared
