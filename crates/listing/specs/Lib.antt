pub mod Listing
pub mod Ring
pub mod Near
pub mod Least
