-- What only the steps of the code and their proofs speak of.
pub mod CellChanges
pub mod Contents
pub mod Lately
pub mod OneCell
pub mod Widths
