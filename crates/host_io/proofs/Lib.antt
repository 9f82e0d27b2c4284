pub mod Bytes
mod Crashes
pub mod Faults
pub mod Images
pub mod Moments
pub mod Ranges
mod Replays
mod Takes
