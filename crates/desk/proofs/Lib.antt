-- The laws of the turns.
pub mod Turning
pub mod Output
