pub mod Lending
pub mod Procedures
pub mod Table
