pub mod Counted
pub mod Dues
pub mod Pairs
pub mod Partners
pub mod Sets
