-- What only the steps of the code and their proofs speak of.
pub mod Answering
pub mod Forms
pub mod Gathering
pub mod Grouping
pub mod Resolving
pub mod Running
