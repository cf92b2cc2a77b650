pub mod Drafted
pub mod Heading
pub mod Reading
pub mod Answer
pub mod Proofs
pub mod Main
