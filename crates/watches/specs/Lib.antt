pub mod Groups
pub mod Histories
pub mod Keeping
pub mod Lines
pub mod Refusals
pub mod Rows
pub mod Watches
