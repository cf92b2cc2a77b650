pub mod Shapes
pub mod Agents
