-- The laws that the layers above cite.
pub mod Steps
pub mod Chains
pub mod Records
pub mod Seen
pub mod Uprights
pub mod Right
