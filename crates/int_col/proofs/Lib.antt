pub mod CutLaws
pub mod Lists
pub mod Splices
pub mod PackedSplices
pub mod Segments
pub mod Columns
pub mod Withins
pub mod Fills
mod PackedCuts
pub mod Grown
