pub mod Draft
pub mod Taking
pub mod Judging
pub mod Records
pub mod Proofs
