pub mod Cut
pub mod Explanation
pub mod Near
pub mod Spot
pub mod Unread
pub mod Wanted
pub mod inside
