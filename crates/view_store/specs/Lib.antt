pub mod Changes
pub mod Edits
pub mod Fitting
pub mod Refusals
pub mod Rests
pub mod Views
