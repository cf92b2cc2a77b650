pub mod Lists
pub mod Sides
pub mod Passing
pub mod Rows
pub mod Whole
pub mod Finding
pub mod Chains
