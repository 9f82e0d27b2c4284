pub mod Counting
pub mod Filtering
pub mod Runs
pub mod States
