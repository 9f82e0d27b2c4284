pub mod Groups
pub mod Index
pub mod Marks
pub mod WholeRows
