pub mod Parts
pub mod Look
pub mod Main
pub mod Beneath
