pub mod Fields
pub mod Arguments
pub mod Meaning
pub mod Proofs
pub mod Main
