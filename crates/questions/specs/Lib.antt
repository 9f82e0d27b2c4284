pub mod Answers
pub mod AtHand
pub mod Cursors
pub mod InOrder
pub mod Kept
pub mod Operations
pub mod Places
pub mod Told
