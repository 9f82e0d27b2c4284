mod Refused
pub mod Comings
pub mod Finding
pub mod Hashing
pub mod Holding
pub mod Homing
pub mod Inside
pub mod Ordering
pub mod Placing
pub mod Whole
