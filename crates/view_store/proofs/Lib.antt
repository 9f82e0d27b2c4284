pub mod Editing
pub mod Fitting
pub mod Lengths
pub mod Named
pub mod Resting
pub mod Roots
pub mod Walking
