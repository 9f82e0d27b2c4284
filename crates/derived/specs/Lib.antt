pub mod Grouping
pub mod Joining
pub mod Layers
pub mod NodeFalls
pub mod Nodes
pub mod Operators
pub mod Refusals
pub mod Viewing
