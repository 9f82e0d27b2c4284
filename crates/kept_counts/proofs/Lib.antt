pub mod Asked
pub mod Holding
pub mod Keying
pub mod Marking
pub mod Placing
pub mod Reordered
pub mod Stepping
pub mod Tabled
