pub mod Calling
pub mod Finding
mod Cutting
mod Following
pub mod Searching
pub mod Keyed
mod Lists
pub mod Moving
pub mod Prefixes
pub mod Putting
mod Sorting
