pub mod Plan
pub mod Proposed
pub mod InMemory
