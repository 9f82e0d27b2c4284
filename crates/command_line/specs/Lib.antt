pub mod Causes
pub mod Command
pub mod Asking
pub mod Words
