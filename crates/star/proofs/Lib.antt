-- The laws of the star's reader.
pub mod Along
