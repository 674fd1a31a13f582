pub mod Words
pub mod Numbers
pub mod Reading
pub mod Writing
pub mod Scan
pub mod Forms
