pub mod Examples
pub mod Loads
pub mod Picks
pub mod Promises
pub mod Rulebook
pub mod Answers
pub mod Words
