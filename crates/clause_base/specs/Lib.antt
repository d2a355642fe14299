pub mod Lit
pub mod Clauses
pub mod Pool
pub mod Truth
pub mod TruthValues
pub mod Refutation
pub mod Spent
pub mod Examples
