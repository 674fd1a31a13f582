pub mod Told
pub mod Floats
