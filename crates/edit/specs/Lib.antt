pub mod Edit
pub mod Cleared
