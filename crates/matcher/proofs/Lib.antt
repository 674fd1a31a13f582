-- The laws of the matcher.
pub mod Order
pub mod Least
pub mod Gathering
pub mod Around
pub mod Answering
pub mod Complaint
pub mod Example
