-- The laws that the layers above cite.
pub mod Editions
pub mod Inverse
