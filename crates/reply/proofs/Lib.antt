-- The laws of an answer.
pub mod Few
pub mod Begins
pub mod Answered
pub mod Obeys
pub mod Cut
