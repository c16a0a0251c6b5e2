pub mod Batches
pub mod Network
pub mod Readers
pub mod Wiring
pub mod Writers
pub mod inside
