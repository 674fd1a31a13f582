-- The laws that the layers above cite.
pub mod Bools
pub mod Below
pub mod Members
pub mod Sets
pub mod Select
pub mod Scan
pub mod Fill
pub mod Order
pub mod Keep
pub mod Counts
pub mod Alike
pub mod Sized
pub mod Cyclic
pub mod Every
pub mod Through
pub mod Mapped
pub mod Tested
