pub mod Layout
pub mod Moves
pub mod Places
pub mod Whole
