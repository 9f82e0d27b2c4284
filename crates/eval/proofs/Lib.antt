pub mod Answered
pub mod Slices
pub mod Whole
