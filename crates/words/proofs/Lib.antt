-- The laws that the layers above cite.
pub mod Fits
pub mod Frame
