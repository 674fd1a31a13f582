-- Two crews, either order.
pub mod Kept
pub mod Swapped
pub mod Either
pub mod Lists
pub mod Tallies
pub mod Answered
