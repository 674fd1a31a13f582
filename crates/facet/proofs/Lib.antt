-- The laws that the layers above cite.
pub mod Copy
pub mod Held
pub mod Sets
pub mod Read
pub mod Match
