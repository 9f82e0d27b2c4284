pub mod Answered
pub mod Begun
pub mod Ended
pub mod Faults
pub mod Saved
pub mod Well
