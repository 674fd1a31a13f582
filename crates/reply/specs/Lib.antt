pub mod Memory
pub mod Replied
