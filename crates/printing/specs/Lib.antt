pub mod Prints
pub mod Puts
