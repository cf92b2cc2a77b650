pub mod Together
pub mod Ways
