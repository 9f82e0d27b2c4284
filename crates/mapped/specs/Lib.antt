pub mod Events
pub mod Index
pub mod Keys
pub mod Order
pub mod Refusals
