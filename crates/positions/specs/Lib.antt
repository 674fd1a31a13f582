pub mod Measures
pub mod Rows
pub mod Replies
pub mod Pointed
