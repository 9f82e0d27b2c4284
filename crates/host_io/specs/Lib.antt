pub mod Disk
pub mod Outside
pub mod Calls
pub mod Ranges
pub mod Memory
pub mod Log
