pub mod Laid
pub mod Upright
