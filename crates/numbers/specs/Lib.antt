pub mod Editions
pub mod Half
pub mod Room
pub mod Sizes
