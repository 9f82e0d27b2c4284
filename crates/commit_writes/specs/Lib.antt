pub mod Blocks
pub mod Footprints
pub mod Plans
pub mod Phases
pub mod Writing
pub mod Carrying
