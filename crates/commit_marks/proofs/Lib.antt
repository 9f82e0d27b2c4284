pub mod Bodies
pub mod Chosen
mod Heads
