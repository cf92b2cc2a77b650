pub mod Loops
pub mod Ways
