pub mod Agreed
pub mod Ruling
