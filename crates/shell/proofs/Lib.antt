pub mod After
pub mod Completing
pub mod Crashing
pub mod InSilence
pub mod Loaded
pub mod Outcomes
pub mod Quitting
pub mod Saying
