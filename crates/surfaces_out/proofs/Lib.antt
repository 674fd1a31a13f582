-- The laws of writing a surface.
pub mod Marked
pub mod Listed
pub mod Answered
