pub mod Lists
pub mod Ascending
pub mod Filled
