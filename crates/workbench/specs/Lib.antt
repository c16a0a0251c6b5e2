pub mod Ending
pub mod Explaining
pub mod FaultBlocks
pub mod Listing
