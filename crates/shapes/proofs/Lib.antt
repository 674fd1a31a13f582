-- The laws that the layers above cite.
pub mod Read
pub mod Facts
pub mod Padded
pub mod Types
