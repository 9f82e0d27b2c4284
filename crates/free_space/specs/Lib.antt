pub mod Extents
pub mod FreeSpace
pub mod Overlaps
pub mod Cursors
pub mod Sites
