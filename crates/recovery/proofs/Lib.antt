pub mod Directories
pub mod EntriesOf
pub mod Exact
pub mod Flawed
pub mod Footprints
mod Memos
pub mod NumberBlocks
pub mod NumberColumns
mod OneAnswer
pub mod OneCommit
pub mod OneRefusal
mod OneRow
pub mod PlainParts
pub mod ReadErrors
mod SamePlain
mod SameStrings
mod SameTables
mod SameValues
pub mod StringBlocks
pub mod StringColumns
pub mod Widths
pub mod DirSpans
pub mod FirstUnreadable
pub mod FoundTables
pub mod Restored
pub mod Roots
pub mod PlainColumnsRead
pub mod ReadSoFar
pub mod ViewsSoFar
pub mod Refused
pub mod Starts
pub mod PlainTexts
pub mod Undamaged
