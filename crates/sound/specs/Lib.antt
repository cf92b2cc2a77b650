pub mod Clauses
pub mod Lent
