pub mod Editing
pub mod Eventing
pub mod Filtered
pub mod Rotating
pub mod Runs
pub mod Showing
