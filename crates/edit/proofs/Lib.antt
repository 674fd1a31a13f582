-- The laws that the layers above cite.
pub mod Aside
pub mod Around
pub mod Inserts
pub mod Removes
pub mod Chained
