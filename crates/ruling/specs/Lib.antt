pub mod Judged
pub mod Tested
