pub mod Agents
pub mod Names
pub mod Pays
pub mod Stores
pub mod Ways
