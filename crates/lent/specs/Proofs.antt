pub mod Decisions
pub mod Givens
