pub mod Counting
pub mod Marks
pub mod Proofs
pub mod Meaning
