-- Planned changes: the planner's plan passes the check.
pub mod Passing
pub mod Buildable
pub mod Mornings
pub mod Passes
pub mod Calls
pub mod Right
