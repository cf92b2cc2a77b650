pub mod Wiring
pub mod Keeping
