pub mod Spelled
pub mod Found
pub mod Readings
pub mod OneJob
pub mod Lone
pub mod Tasks
