pub mod Whole
pub mod SecondHalf
