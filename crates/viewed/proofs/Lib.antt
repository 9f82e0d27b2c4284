pub mod Arguments
pub mod Dues
pub mod Made
