pub mod Answers
pub mod Literals
pub mod Names
pub mod Parts
pub mod Values
