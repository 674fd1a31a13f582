pub mod Settle
pub mod Sibs
pub mod Mended
pub mod Ancs
