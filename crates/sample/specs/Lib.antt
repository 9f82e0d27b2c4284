pub mod Edits
pub mod Lines
pub mod Numbers
pub mod Stages
