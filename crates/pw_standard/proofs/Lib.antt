pub mod Readings
pub mod Rows
pub mod StandardLists
