pub mod Shapes
pub mod Table
pub mod Facts
pub mod Sizes
