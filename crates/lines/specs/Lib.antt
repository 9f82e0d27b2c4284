pub mod Lines
pub mod Machine
pub mod Crash
pub mod Later
pub mod Served
pub mod Rooms
pub mod Spoken
pub mod Steps
