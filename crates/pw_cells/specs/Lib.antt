pub mod Arrivals
pub mod Cells
pub mod Changes
pub mod Shown
pub mod inside
