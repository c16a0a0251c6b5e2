-- What only the steps of the code and their proofs speak of.
pub mod Aside
pub mod Known
pub mod Progress
pub mod Queueing
pub mod Since
pub mod SupportLists
