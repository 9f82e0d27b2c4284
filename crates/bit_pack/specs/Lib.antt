pub mod Width
pub mod Packed
pub mod Lane
pub mod Refusal
