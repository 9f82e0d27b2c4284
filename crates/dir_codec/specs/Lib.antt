pub mod Dir
pub mod Fields
pub mod Columns
pub mod DirCode
pub mod Values
pub mod DirFalls
pub mod Reads
pub mod Parts
