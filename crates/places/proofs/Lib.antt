pub mod Parts
pub mod Stops
pub mod Cuts
pub mod Passes
pub mod Ranking
pub mod Joining
pub mod Turns
pub mod Sweeps
