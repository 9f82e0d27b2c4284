mod CursorLemmas
pub mod EndLemmas
pub mod ExtentLemmas
pub mod OrderLemmas
pub mod OverlapLemmas
pub mod PlaceLemmas
pub mod Placing
pub mod UsedLemmas
