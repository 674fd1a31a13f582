pub mod Checked
pub mod Opening
