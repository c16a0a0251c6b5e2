pub mod Host
pub mod Replies
pub mod Rest
pub mod Sum
