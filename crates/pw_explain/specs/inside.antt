-- What only the steps of the code and their proofs speak of.
pub mod FirstEdit
pub mod Kept
