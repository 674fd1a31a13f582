pub mod WritesOff
pub mod InMemory
