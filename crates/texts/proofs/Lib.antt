pub mod Beneath
pub mod Examples
pub mod Main
pub mod Words
