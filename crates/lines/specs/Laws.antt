-- What the tests mean.
pub mod Fields
pub mod Words
pub mod Agents
pub mod Names
pub mod Parts
pub mod Splits
