mod Flagged
pub mod Flagging
pub mod Following
pub mod Keying
pub mod Numbering
pub mod Operating
pub mod Spans
