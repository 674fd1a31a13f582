-- The laws that the layers above cite.
pub mod Meeting
pub mod Round
pub mod Merging
pub mod Seeking
pub mod Recalling
pub mod Listing
pub mod Grouped
pub mod Anchored
pub mod Deciding
