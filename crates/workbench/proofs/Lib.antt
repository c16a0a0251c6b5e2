pub mod Blocks
pub mod Fronts
pub mod Listings
