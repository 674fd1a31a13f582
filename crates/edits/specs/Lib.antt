pub mod Counts
pub mod InTurn
