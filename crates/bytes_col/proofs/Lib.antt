pub mod Short
pub mod CellLaws
pub mod PartLaws
pub mod Splices
pub mod Columns
pub mod Sizes
pub mod Fills
pub mod Orders
mod Filled
mod BlockLaws
pub mod Grown
pub mod Inserted
pub mod Edited
pub mod Places
