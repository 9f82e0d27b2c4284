pub mod Splitting
pub mod OneReading
pub mod Turns
pub mod Standing
mod Later
mod Uttering
mod OneLine
mod Going
mod OnePiece
mod OneTake
