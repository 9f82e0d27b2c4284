pub mod Edits
pub mod Events
pub mod Lines
pub mod Origins
pub mod Runs
