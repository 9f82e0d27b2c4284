pub mod Keeping
pub mod Keyed
pub mod Mapped
pub mod Refusals
