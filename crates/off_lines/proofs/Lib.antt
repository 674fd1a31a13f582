-- The laws of lines.
pub mod Lines
pub mod Lengths
