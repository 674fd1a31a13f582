-- The laws that the layers above cite.
pub mod Nexts
pub mod Places
pub mod Walks
pub mod Links
pub mod Differ
pub mod Relinks
pub mod Readied
pub mod Inner
