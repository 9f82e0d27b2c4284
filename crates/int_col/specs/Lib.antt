pub mod Cuts
pub mod Numbers
pub mod Prepared
pub mod Segment
pub mod Segmented
pub mod Spine
pub mod Tail
pub mod Within
