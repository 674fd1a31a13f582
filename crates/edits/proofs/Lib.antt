-- The laws of a list of edits.
pub mod Counting
pub mod Turns
pub mod Going
pub mod Wellformed
pub mod Cut
pub mod Runs
pub mod Mornings
pub mod Alone
pub mod Joined
