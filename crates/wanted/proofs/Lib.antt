-- The laws that the layers above cite.
pub mod Reading
pub mod Standing
pub mod Exact
pub mod Examples
