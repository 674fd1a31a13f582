pub mod Borders
pub mod Corners
pub mod First
