pub mod Frames
pub mod Forms
