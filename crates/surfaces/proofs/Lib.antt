-- The laws of reading a surface.
pub mod Filling
pub mod Facing
pub mod Building
pub mod Answering
