pub mod Closest
pub mod Together
pub mod MergesTogether
pub mod Rests
pub mod Assimilations
pub mod Stores
pub mod Wholes
pub mod FactsBySupport
pub mod ToldFacts
pub mod Late
pub mod Current
pub mod CurrentMerges
pub mod Tells
pub mod RightAnswers
mod CellChanges
mod One
mod Shown
mod Visible
mod LastFirst
mod Bounds
mod Continuing
