pub mod Kinds
pub mod Agents
pub mod Judged
pub mod Laws
