mod Answering
mod Ascending
mod AtHand
mod Firsts
mod Found
mod Keys
mod Levels
mod Ordered
mod Printed
mod RowsUnder
mod Runs
mod Sizes
mod Steps
mod Watched
pub mod Unordered
