pub mod Both
pub mod Decided
pub mod Proofs
