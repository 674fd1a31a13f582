-- The laws of admitting a cell.
pub mod Ranges
pub mod Alike
pub mod Faces
pub mod Rows
