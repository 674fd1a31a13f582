pub mod Days
pub mod Entries
pub mod Journals
pub mod Writes
pub mod Told
