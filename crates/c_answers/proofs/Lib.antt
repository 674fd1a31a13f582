-- The laws of answers told by numbers.
pub mod Tells
pub mod Floats
