mod Alike
mod Answering
pub mod Asked
mod Calls
mod WatchDues
pub mod Dues
mod Fair
pub mod Fitted
pub mod Known
mod KeyedFollow
mod KeyedKept
mod KeyedLines
mod KeyedPut
mod KeyedSet
mod LinesOn
pub mod Machines
mod Made
pub mod OnDisk
mod OnlyReading
pub mod Outcomes
mod Putting
pub mod Readings
pub mod Ready
mod Room
pub mod Started
pub mod Stepped
pub mod Structured
pub mod Unfaulted
pub mod Walked
mod Watched
