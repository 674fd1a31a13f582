pub mod Listed
pub mod Along
