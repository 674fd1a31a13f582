-- The laws of the form.
pub mod Taking
pub mod Passing
pub mod Heads
