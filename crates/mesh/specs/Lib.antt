pub mod Edited
pub mod Run
