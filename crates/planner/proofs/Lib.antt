-- The laws of the planner.
pub mod Marking
pub mod Removing
pub mod Answered
