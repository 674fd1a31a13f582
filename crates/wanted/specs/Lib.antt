pub mod Wanted
pub mod Plans
pub mod Records
