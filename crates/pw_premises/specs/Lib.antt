pub mod PremiseSets
pub mod PremiseSubsets
pub mod Premises
pub mod inside
