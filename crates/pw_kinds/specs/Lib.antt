pub mod Exact
pub mod Interval
pub mod Masks
pub mod Members
pub mod Places
pub mod Ranges
pub mod Laws
