-- The laws of borders and of the first anchor.
pub mod Words
pub mod Firsts
pub mod Corners
pub mod Chained
pub mod Cornered
pub mod Ending
pub mod Walked
