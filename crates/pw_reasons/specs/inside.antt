-- What only the steps of the code and their proofs speak of.
pub mod Alike
pub mod Beside
pub mod Families
pub mod GroupsHeld
pub mod Held
pub mod PairRows
pub mod Products
pub mod Reasoning
pub mod Searching
