pub mod Columns
pub mod Restructuring
