pub mod Fewer
pub mod Firsts
pub mod Naming
