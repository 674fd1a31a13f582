-- The laws that the layers above cite.
pub mod Along
pub mod Written
pub mod Mended
pub mod Turned
