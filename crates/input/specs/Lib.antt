pub mod Standing
pub mod Fed
pub mod InPieces
