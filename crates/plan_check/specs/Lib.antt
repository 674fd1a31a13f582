pub mod Checked
pub mod Steps
