pub mod Wires
pub mod Keeps
pub mod Modelled
