mod Pieces
pub mod Putting
pub mod Looking
pub mod Rounding
