-- What only the steps of the code and their proofs speak of.
pub mod Appended
pub mod Batches
pub mod CompoundLists
pub mod Held
pub mod Lists
pub mod Reads
pub mod Room
