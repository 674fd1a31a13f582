-- Demand 3, as theorems about the memory.
pub mod Stories
pub mod Mornings
pub mod Afresh
pub mod Halves
pub mod Words
pub mod Kept
pub mod Records
pub mod Walks
pub mod SiblingRecords
pub mod Alike
