pub mod Passes
pub mod ReadsOff
