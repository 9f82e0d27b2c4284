pub mod Segments
pub mod Splices
pub mod Joined
pub mod Groups
pub mod Together
