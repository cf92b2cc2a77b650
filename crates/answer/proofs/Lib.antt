pub mod Calls
pub mod Tails
