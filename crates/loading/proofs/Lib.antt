pub mod Lays
pub mod Filled
