pub mod Coding
pub mod Walks
pub mod Verdict
