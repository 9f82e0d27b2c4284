pub mod Bases
pub mod Complete
pub mod RanOver
pub mod Safe
pub mod Seen
pub mod Steps
