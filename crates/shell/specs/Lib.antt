pub mod Complete
pub mod Crashes
pub mod Faults
pub mod Ran
pub mod Said
pub mod Sampled
pub mod Statuses
