pub mod Layout
pub mod Sheet
pub mod Agents
pub mod Words
pub mod Reader
pub mod Meaning
pub mod Reads
