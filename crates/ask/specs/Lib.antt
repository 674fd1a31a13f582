pub mod Asked
pub mod Steps
pub mod Refusals
