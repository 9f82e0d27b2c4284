pub mod Causes
pub mod Loading
pub mod Saving
pub mod Silence
pub mod Taking
