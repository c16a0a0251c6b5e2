pub mod CutLemmas
pub mod DroppedLines
pub mod Edits
pub mod KeptLines
pub mod LineEnds
pub mod NearestNames
pub mod WordPlaces
pub mod WrittenBytes
