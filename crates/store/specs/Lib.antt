pub mod Layout
pub mod Fields
pub mod Slots
pub mod Open
pub mod Rests
