mod Files
mod Filling
pub mod Frames
pub mod Phases
mod Steps
pub mod Writers
