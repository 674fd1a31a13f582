-- The laws of the edits.
pub mod Inserting
pub mod Answering
pub mod Removing
pub mod Evening
