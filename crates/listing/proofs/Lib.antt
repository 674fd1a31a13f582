-- The laws of the listing queries.
pub mod Outputs
pub mod Listed
pub mod Looked
pub mod Facets
pub mod Turned
pub mod Ways
pub mod Selected
pub mod Typed
pub mod Least
pub mod Near
