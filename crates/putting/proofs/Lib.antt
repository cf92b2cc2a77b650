pub mod Finding
pub mod Changes
pub mod Stores
