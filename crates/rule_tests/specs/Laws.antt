-- Why the tests by words are the numbers 5 and 8.
pub mod Lasts
pub mod Parts
pub mod Lefts
pub mod Times
pub mod Apart
pub mod Eight
pub mod Five
pub mod Nexts
