pub mod Committed
pub mod Homeless
mod Making
pub mod Marked
pub mod NewStore
pub mod Resting
