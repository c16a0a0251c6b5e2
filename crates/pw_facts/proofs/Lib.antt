pub mod Merges
pub mod Shown
