-- What only the steps of the code and their proofs speak of.
pub mod Fields
pub mod Flattening
pub mod Forms
pub mod Held
pub mod Opened
pub mod SentenceFaults
