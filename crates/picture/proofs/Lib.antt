-- The laws that the layers above cite.
pub mod Put
pub mod Shows
pub mod Writers
pub mod Fills
pub mod Alike
pub mod Bodies
pub mod Record
pub mod Settles
